-- `blocks::put_span` meets its contract: the bytes are copied to their place and sealed there. Assumes nothing.
use mathlib.Core.Path.{◌≡◌, refl, sym}
use Prim.Native.Nat.{◌+◌, ◌-◌}
use native.Mathlib.Omega.{arith}
use lib.ListN.{length, take, drop, length-drop}
use lib.Seq.{length-take-le, drop-drop}
use Rattle.blocks.proofs.CopyLaws.{copied_all}
use Rattle.blocks.proofs.WalkLaws.{filled, sealed_filled}
use Rattle.blocks.proofs.put_span.Goals as goal

pub returns : goal.returns
unfolding filled
returns c =
    let a = c.args in
    let k = length a.piece.now in
    let put : a.at + k - a.at ≡ k = omega arith in
    let is = copied_all (take k (drop a.at a.out.now)) a.piece.now (rw put at c.copy.ensures)
    (sym (length-take-le k (drop a.at a.out.now) (omega (arith, length-drop a.at a.out.now)))) in
    rw (c.seal_at.ensures, put, is, drop-drop k a.at a.out.now)
    (sealed_filled a.out.now a.at a.piece.now (omega arith) refl)
