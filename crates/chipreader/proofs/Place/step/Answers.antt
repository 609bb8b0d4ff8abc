-- `chipreader::Place::step` meets its contract: an accepted word lies within the chips, so the place behind it fits.
use mathlib.Core.Path.{sym, ◌∙◌}
use native.Mathlib.Omega.{arith}
use Rattle.line.proofs.AnswerLaws.{word_read_within}
use Rattle.line.specs.Codes.{code_of}
use Rattle.chipreader.proofs.Place.step.Goals as goal

pub overflow_add-at : goal.overflow_add-at
overflow_add-at c =
    let a = c.args in
    let within = word_read_within (code_of a.code) a.chips.now a.self.at
    (sym c.word_at-word.ensures ∙ c.in-Ok.is) in
    omega (arith, c.width.ensures)
