-- `keeping::add_by_number` meets its contract: the numbers are judged before the call. Assumes nothing.
use mathlib.Core.Path.{◌∙◌}
use Rattle.store.proofs.WholeStoreLaws.{add_listed}
use Rattle.store.proofs.keeping.add_by_number.Goals as goal

pub returns : goal.returns
returns c =
    let a = c.args in
    c.add.ensures
    ∙ rw (c.format_of.ensures, c.mode_of.ensures)
    (add_listed a.address a.mode a.format a.store.now c.if-mode-gt5.false c.if-format-gt1.false)
