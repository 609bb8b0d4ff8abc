-- `Cut::first_wrong` meets its contract. The loop's invariant: what the walk would find from here, counted on from
-- the block at hand, is what it finds from the start; and what is left lies inside the slice. The measure is how many
-- bytes are left. Assumes nothing.
use Rattle.blocks.proofs.LoopLaws.{Checking}
use Rattle.blocks.proofs.Cut.first_wrong.Given as goal

abbrev pub invariant-loop-left : goal.invariant-loop-left
invariant-loop-left l = Checking l.s l.self.first l.self.later l.t l.at l.most l.left l.block

abbrev pub decreases-loop-left : goal.decreases-loop-left
decreases-loop-left l = l.left
