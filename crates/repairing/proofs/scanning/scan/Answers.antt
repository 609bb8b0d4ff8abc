use Rattle.std.proofs.Common.{arith, inl, inr}
use Rattle.repairing.proofs.GoingLaws.{going_end}
use Rattle.repairing.proofs.scanning.scan.Goals as goal

pub returns-else-at-gt0 : goal.returns-else-at-gt0
returns-else-at-gt0 c = going_end c.loop-at.invariant.0 (inl (omega arith))

pub returns-after-loop-at : goal.returns-after-loop-at
returns-after-loop-at c = going_end c.loop-at.invariant.0 (inr (omega arith))
