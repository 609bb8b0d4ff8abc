-- `correction::rows::Rows::two_in` meets its contract. Assumes nothing.
use native.Mathlib.Omega.{arith}
use Rattle.correction.proofs.TurnLaws.{in_two}
use Rattle.correction.proofs.rows.Rows.two_in.Goals as goal

pub returns : goal.returns
returns c =
    let a = c.args in
    in_two a.m a.x a.y (omega arith) c.moved_up.ensures c.checks_of_two.ensures c.bitxor.ensures
