-- Decoding the one word at a chip (document 01, "Answer numbers": the chip reader's 10, 1, 6).
--     word_for v          what a word answers that stands for v; the place that goes with 6 is 0, there is but one word
--     word_read κ s at    the byte, half-byte or bit that the word at chip `at` of s stands for, or a refusal
use Rattle.std.specs.Prelude.{cond, List, ℕ, ◌+◌, ltb, Option, ok_or, Result, Err}
use Rattle.answers.specs.declared.Refusal.{Refusal}
use Rattle.answers.specs.declared.Refusal.TheVariants.{Short, BadWord, OutOfRange}
use Rattle.chips.specs.Chips.{word_at, chip_count, in_range}
use Rattle.line.specs.Codes.{LineCode, word_value}

abbrev pub word_for : Option ℕ → Result ℕ Refusal
word_for v = ok_or v (BadWord 0)

unfoldable pub word_read : LineCode → List ℕ → ℕ → Result ℕ Refusal
word_read κ s at =
    cond (in_range s at)
    (cond (ltb (chip_count s) (at + κ.chips)) (Err Short)
    (word_for (word_value κ (word_at s at κ.chips))))
    (Err OutOfRange)
