-- `line::words::word_at` meets its contract: each answer follows from the tests that led to it.
use mathlib.Core.Path.{ap, sym, ◌∙◌}
use native.Mathlib.Omega.{arith}
use Rattle.chips.proofs.RangeLaws.{InBuffer, in_range_true}
use Rattle.chips.proofs.WindowLaws.{word_at_lt}
use Rattle.chips.specs.Chips.{word_at}
use Rattle.line.proofs.AnswerLaws.{word_read_out, word_read_short, word_read_fits}
use Rattle.line.specs.Codes.{code_of, word_value}
use Rattle.line.specs.OneWord.{word_for}
use Rattle.line.proofs.words.word_at.Goals.{Else-not-in_range}
use Rattle.line.proofs.words.word_at.Goals as goal

-- buffer and place are in range
in_buffer : (c : Else-not-in_range) → InBuffer c.args.s.now c.args.at
in_buffer c = in_range_true (sym c.in_range.ensures ∙ c.if-not-in_range.false)

pub returns-then-not-in_range : goal.returns-then-not-in_range
returns-then-not-in_range c =
    sym (word_read_out (code_of c.args.code) _ _ (sym c.in_range.ensures ∙ c.if-not-in_range.true))

pub returns-then-s-at : goal.returns-then-s-at
returns-then-s-at c =
    let inside = in_buffer (goal.at.returns-then-s-at c).Else-not-in_range in
    sym (word_read_short (code_of c.args.code) _ _ inside (omega (arith, inside, c.width-w.ensures)))

pub word_value-requires : goal.word_value-requires
word_value-requires c =
    let a = c.args in
    rw (c.narrow.ensures, ← c.width-w.ensures) (word_at_lt a.s.now a.at c.width-w.result)

pub returns : goal.returns
returns c =
    let a = c.args in
    let κ = code_of a.code in
    let inside = in_buffer (goal.at.returns c).Else-not-in_range in
    let word = c.narrow.ensures ∙ ap (word_at a.s.now a.at) c.width-w.ensures in
    let told = c.word_value.ensures ∙ ap (word_value κ) word in
    let read = word_read_fits κ a.s.now a.at inside (omega (arith, c.width-w.ensures)) in
    c.ok_or.ensures.value ∙ (ap word_for told ∙ sym read)
