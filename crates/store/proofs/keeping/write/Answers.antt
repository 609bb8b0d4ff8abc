-- `keeping::write` meets its contract. Assumes nothing.
use native.Mathlib.Omega.{arith}
use Rattle.blocks.proofs.CopyLaws.{copied_part}
use Rattle.store.proofs.KeptLaws.{opened_kept}
use Rattle.store.proofs.WholeStoreLaws.{write_all}
use Rattle.store.proofs.keeping.write.Goals as goal

pub returns : goal.returns
returns c =
    let a = c.args in
    let o = rw c.none-held.ensures.0 at c.in_ok-in_memory.ensures.held in
    let kept = opened_kept o in
    let file =
    copied_part a.out.now a.store.now 0 _ (omega (arith, kept.few, kept.room)) (omega (arith, c.if-out-size.false))
    c.copy.ensures in
    write_all kept a.out.now c.if-out-size.false file
