-- `blocks::block_ok` meets its contract: the check that stands there is compared with the one that crc answers.
-- Assumes nothing.
use mathlib.Core.Path.{◌≡◌, sym}
use Prim.Native.Nat.{◌+◌, ◌-◌}
use native.Mathlib.Omega.{arith}
use Rattle.blocks.proofs.SealLaws.{block_ok_check}
use Rattle.blocks.proofs.block_ok.Goals as goal

pub returns : goal.returns
returns c =
    let a = c.args in
    let e : a.at + a.k - a.at ≡ a.k = omega arith in
    rw (c.check_at.ensures, rw e at c.check.ensures)
    (sym (block_ok_check a.s.now a.at a.k (omega (arith, c.type_inv.s (a.at + a.k + 1)))))
