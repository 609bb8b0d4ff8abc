-- The chip reader (document 01, "Chips and line codes", "Answer numbers": 10 when made, then 1, 6, its place staying).
--     start_of s at     where a reader over the chips of s starts: at the named chip, or closed, place 0 (D60)
--     place_after       the place that a word answers: behind it where it is accepted; else the place stays
--     is_closed         whether the reader was refused when it was made: 10 is never answered afterwards (StepLaws)
--     step_of κ s p     the place after one word of the code κ; a closed reader stays as it is
--     reader_at s p     the reader that keeps the lent chips s and the place p
--     reader_after κ r  the reader r after one word of the code κ: the chips stay lent, the place moves on or stays
-- Assumes nothing.
use Rattle.std.specs.Prelude.{Bool, false, cond, List, ℕ, ◌+◌, eqb, Option, Some, None, Result, Ok, Err}
use Rattle.std.specs.Borrow.{Bor}
use Rattle.answers.specs.Refusals.{number_of}
use Rattle.answers.specs.declared.Refusal.{Refusal}
use Rattle.answers.specs.declared.Refusal.TheVariants.{OutOfRange}
use Rattle.chips.specs.Chips.{in_range}
use Rattle.line.specs.Codes.{LineCode}
use Rattle.line.specs.OneWord.{word_read}
use Rattle.chipreader.specs.declared.Place.{Place}
use Rattle.chipreader.specs.declared.ChipReader.{ChipReader}

unfoldable pub start_of : List ℕ → ℕ → Place
start_of s at =
    cond (in_range s at) (record { at = at; answer = None }) (record { at = 0; answer = Some (Err OutOfRange) })

abbrev pub place_after : LineCode → ℕ → Result ℕ Refusal → Place
place_after κ at (Ok x) = record { at = at + κ.chips; answer = Some (Ok x) }
place_after κ at (Err r) = record { at = at; answer = Some (Err r) }

abbrev pub is_closed : Option (Result ℕ Refusal) → Bool
is_closed None = false
is_closed (Some (Ok x)) = false
is_closed (Some (Err r)) = eqb (number_of r) 10

unfoldable pub step_of : LineCode → List ℕ → Place → Place
step_of κ s p = cond (is_closed p.answer) p (place_after κ p.at (word_read κ s p.at))

abbrev pub reader_at : Bor (List ℕ) → Place → ChipReader
reader_at s p = record { chips = s; place = p }

abbrev pub reader_after : LineCode → ChipReader → ChipReader
reader_after κ r = reader_at r.chips (step_of κ r.chips.now r.place)
