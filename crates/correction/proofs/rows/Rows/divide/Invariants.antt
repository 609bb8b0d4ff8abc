-- `correction::rows::Rows::divide` meets its contract. The measure is how many bytes are left. Assumes nothing.
use Rattle.std.proofs.Common.{length}
use Rattle.correction.proofs.TurnLaws.{Turning}
use Rattle.correction.proofs.rows.Rows.divide.Given as goal

abbrev pub invariant-loop-rest : goal.invariant-loop-rest
invariant-loop-rest l = Turning l.w l.m l.rest

abbrev pub decreases-loop-rest : goal.decreases-loop-rest
decreases-loop-rest l = length l.rest
