-- `correction::rows::Rows::checks_of_two` meets its contract. Assumes nothing.
use Rattle.correction.proofs.RowLaws.{rows_sum}
use Rattle.correction.proofs.rows.Rows.checks_of_two.Goals as goal

pub returns : goal.returns
returns c =
    let a = c.args in
    rows_sum a.self.now.rows.now a.self.now.right a.p a.q c.requires.0 c.requires.1
    c.row.ensures c.row-2.ensures c.bitxor-first.ensures c.row-3.ensures
    c.row-4.ensures c.bitxor-second.ensures c.bitxor.ensures
