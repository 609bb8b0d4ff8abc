-- `Cut::take_out` meets its contract. The loop's invariant: the slice, once the spans that are left are copied to
-- it, is the same after each turn as it was at the start. The measure is how many bytes are left. Assumes nothing.
use Rattle.blocks.proofs.LoopLaws.{Copying}
use Rattle.blocks.proofs.Cut.take_out.Given as goal

abbrev pub invariant-loop-left : goal.invariant-loop-left
invariant-loop-left l = Copying l.s l.self.first l.self.later l.n l.initial.out l.out l.at l.most l.done l.left

abbrev pub decreases-loop-left : goal.decreases-loop-left
decreases-loop-left l = l.left
