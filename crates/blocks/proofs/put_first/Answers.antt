-- `blocks::put_first` meets its contract: the byte is stored, the others copied behind it, and all sealed.
-- Assumes nothing.
use mathlib.Core.Path.{◌≡◌}
use Prim.Native.Nat.{◌+◌, ◌-◌}
use native.Mathlib.Omega.{arith}
use lib.ListN.{set, length-set}
use Rattle.blocks.proofs.CopyLaws.{copied, copied_part}
use Rattle.blocks.proofs.WalkLaws.{sealed_first}
use Rattle.blocks.proofs.put_first.Goals as goal

pub returns : goal.returns
returns c =
    let a = c.args in
    let put : a.k + 1 - 1 ≡ a.k = omega arith in
    let first = set a.out.now 0 a.l in
    let is =
    copied_part first a.c.now 1 a.k (omega arith) (omega (arith, length-set a.out.now 0 a.l))
    (rw put at c.copy.ensures) in
    rw (c.seal_at.ensures, put, copied first a.c.now 1 a.k is)
    (sealed_first a.out.now a.c.now a.l a.k (omega arith) (omega arith))
