use native.Mathlib.Numerals.{add-one}
use native.Mathlib.Omega.{arith}
use Rattle.store.proofs.MergingLaws.{merging_same}
use Rattle.store.proofs.MergeLaws.{Merge, place-lt, merge_held, merge_new}
use Rattle.store.proofs.RestoredToLaws.{restored_to-zero}
use Rattle.store.proofs.restoring.merge_all.Goals.{Start, then-place-count, else-place-count}
use Rattle.store.proofs.restoring.merge_all.Goals as goal

knows : (c : Start) → let a = c.args in let f = a.theirs.now in Merge a.store.now a.count f.bytes.now f.first f.count
knows c =
    let f = c.args.theirs.now in
    let plan = c.requires in
    record { theirs = f.meters; room = plan.room; few = plan.few; bytes = plan.bytes; file_bytes = f.octets }

pub loop-i-init : goal.loop-i-init
loop-i-init c =
    let a = c.args in
    rw (restored_to-zero a.store.now a.count a.theirs.now.bytes.now a.theirs.now.first)
    (merging_same c.requires.bytes c.requires.own)

pub put_unsure-requires : goal.put_unsure-requires
put_unsure-requires c =
    let i = c.loop-i.i in
    let known = knows (goal.at.put_unsure-requires c).Start in (
      c.unmarked.ensures.1,
      omega (
        arith,
        c.requires.placed i c.loop-i-test.true,
        place-lt known i c.loop-i-test.true,
        c.requires.room,
      ),
    )

pub loop-i-preserved : goal.loop-i-preserved
loop-i-preserved c =
    let i = c.loop-i.i in
    let known = knows (goal.at.loop-i-preserved c).Start in
    let placed = c.requires.placed i c.loop-i-test.true in
    rw (add-one i)
    (elim c.if-place-count.branch [
      | then-place-count w ↦
          rw (w.store-is, w.put_meter.ensures, w.max.ensures, w.at-m.ensures, w.meter_at-own.ensures)
          (merge_held known i c.loop-i-test.true c.loop-i.invariant placed w.if-place-count.true)
      | else-place-count w ↦
          rw (w.store-is, w.put_unsure.ensures, w.unmarked.ensures.0)
          (merge_new known i c.loop-i-test.true c.loop-i.invariant placed w.if-place-count.false)
    ])
