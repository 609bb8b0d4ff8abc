-- `Cut::locate` meets its contract. The loop's invariant: the byte looked for is byte i of what is left, which
-- begins at `at`; its place and that of its check are the same from there as from the start. The measure is i.
-- Assumes nothing.
use Rattle.blocks.proofs.LoopLaws.{Seeking}
use Rattle.blocks.proofs.Cut.locate.Given as goal

abbrev pub invariant-loop-most : goal.invariant-loop-most
invariant-loop-most l = Seeking l.self.first l.self.later l.t l.j l.at l.most l.left l.i

abbrev pub decreases-loop-most : goal.decreases-loop-most
decreases-loop-most l = l.i
