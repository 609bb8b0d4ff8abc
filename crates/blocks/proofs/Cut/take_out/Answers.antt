use mathlib.Core.Path.{◌≡◌}
use Prim.Native.Nat.{◌+◌, ◌-◌, ◌≤◌}
use native.Mathlib.Omega.{arith}
use lib.ListN.{length, drop, length-drop}
use Rattle.blocks.proofs.CopyLaws.{copied, copied_part}
use Rattle.blocks.proofs.LoopLaws.{copying_start, copying_fits, copying_step, copying_end}
use Rattle.blocks.proofs.Cut.take_out.Goals.{After-min-k}
use Rattle.blocks.proofs.Cut.take_out.Goals as goal

-- the span at hand and its check lie inside the slice
room :
    (c : After-min-k)
    → c.loop-left.at + (c.min-k.result + 2) ≤ length c.args.s.now
room c =
    omega (arith, copying_fits c.loop-left.invariant (omega arith) (omega arith) c.min-k.ensures)

pub loop-left-init : goal.loop-left-init
loop-left-init c =
    let a = c.args in
    copying_start a.s.now a.self.first a.self.later a.n a.out.now (omega arith) (omega arith) (omega arith)

pub slice_bounds-copy-end : goal.slice_bounds-copy-end
slice_bounds-copy-end c =
    omega (arith, room (goal.at.slice_bounds-copy-end c).After-min-k)

pub loop-left-preserved : goal.loop-left-preserved
loop-left-preserved c =
    let w = c.loop-left in
    let k = c.min-k.result in
    let put : w.done + k - w.done ≡ k = omega arith in
    let read : w.at + k - w.at ≡ k = omega arith in
    let rest = drop w.at c.args.s.now in
    let inside = room (goal.at.loop-left-preserved c).After-min-k in
    let is =
    copied_part w.out rest w.done k (omega (arith, inside, length-drop w.at c.args.s.now))
    (omega (arith, w.invariant.long, w.invariant.all, c.min-k.ensures)) (rw (read, put) at c.copy.ensures) in
    copying_step c.loop-left.invariant (omega arith) (omega arith) c.min-k.ensures (omega arith)
    (rw put (copied w.out rest w.done k is))

pub returns : goal.returns
returns c = copying_end c.loop-left.invariant (omega arith) (omega arith) (omega arith) (omega arith)
