use Rattle.correction.proofs.TurnLaws.{turning_even, turning_odd, turning_next, turning_end}
use Rattle.correction.proofs.rows.Rows.divide.Goals.{then-w-eq1, else-w-eq1}
use Rattle.correction.proofs.rows.Rows.divide.Goals as goal

pub loop-rest-init : goal.loop-rest-init
loop-rest-init c =
    elim c.if-w-eq1.branch [
      | then-w-eq1 w ↦ rw (w.m-is, w.rest-is) (turning_odd _ w.if-w-eq1.true w.two_in-m.ensures)
      | else-w-eq1 w ↦ rw (w.m-is, w.rest-is) (turning_even _ w.if-w-eq1.false)
    ]

pub loop-rest-preserved : goal.loop-rest-preserved
loop-rest-preserved c =
    turning_next _ _ c.loop-rest.invariant c.in-len2-up.len_at_least c.two_in-m-in-len2-up.ensures

pub returns : goal.returns
returns c = turning_end _ _ c.loop-rest.invariant c.in_default.len_below
