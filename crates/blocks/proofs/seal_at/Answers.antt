-- `blocks::seal_at` meets its contract: the check is the one that `sealed` puts behind the bytes. Assumes nothing.
use mathlib.Core.Path.{◌≡◌}
use Prim.Native.Nat.{◌+◌, ◌-◌}
use native.Mathlib.Omega.{arith}
use Rattle.blocks.proofs.WalkLaws.{sealed_at}
use Rattle.blocks.proofs.seal_at.Goals as goal

pub returns : goal.returns
returns c =
    let a = c.args in
    let e : a.at + a.k - a.at ≡ a.k = omega arith in
    rw (c.put_check.ensures, rw e at c.check-check.ensures) (sealed_at a.out.now a.at a.k (omega arith))
