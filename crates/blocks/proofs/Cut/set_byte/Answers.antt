-- `Cut::set_byte` meets its contract: the byte stands before its check and inside the slice, and no span is longer
-- than the update reaches. Assumes nothing.
use Prim.Native.Nat.{◌+◌, ◌≤◌, ◌<◌}
use native.Mathlib.Omega.{arith}
use lib.ListN.{length}
use Rattle.blocks.specs.Spans.{spans}
use Rattle.blocks.proofs.CutLaws.{total_spans, widest_spans}
use Rattle.blocks.proofs.PlaceLaws.{placed-lt}
use Rattle.blocks.proofs.Cut.set_byte.Goals.{After-locate-start}
use Rattle.blocks.proofs.Cut.set_byte.Goals as goal

-- the byte stands inside its span, the span inside the slice, and the span is at most 126 bytes long
inside :
    (c : After-locate-start)
    → let r = c.locate-start.result in
    (r.offset < r.length)
    × ((r.start + r.length + 2 ≤ length c.args.s.now) × (r.length ≤ r.offset + 126))
inside c =
    let a = c.args in
    let p = placed-lt (spans a.self.first a.self.later a.t) a.j
    (omega (arith, total_spans a.self.first a.self.later a.t (omega arith) (omega arith))) in
    let near = widest_spans 126 a.self.first a.self.later a.t (omega arith) (omega arith) in
    let e = c.locate-start.ensures in
    (omega (arith, p.before, e.0, e.1), (omega (arith, p.inside, e.1), omega (arith, p.near, near, e.0, e.1)))

pub overflow_sub-distance : goal.overflow_sub-distance
overflow_sub-distance c = omega (arith, inside (goal.at.overflow_sub-distance c).After-locate-start)

pub overflow_sub-distance-2 : goal.overflow_sub-distance-2
overflow_sub-distance-2 c = omega (arith, inside (goal.at.overflow_sub-distance-2 c).After-locate-start)

pub overflow_add-start : goal.overflow_add-start
overflow_add-start c = omega (arith, inside (goal.at.overflow_add-start c).After-locate-start)

pub overflow_add-start-2 : goal.overflow_add-start-2
overflow_add-start-2 c = omega (arith, inside (goal.at.overflow_add-start-2 c).After-locate-start)

pub mend-requires : goal.mend-requires
mend-requires c =
    let h = inside (goal.at.mend-requires c).After-locate-start in
    (omega arith, (omega arith, omega arith))
