-- Worked readings: bytes of EN 13757-4:2019, Annex C, word by word.
--     readings κ s n p    the places of a reader that takes n words of the code κ, one by one, from the place p
--     readings_worked     what is read, and where the reader then stands
-- The chips 5A 90 are 010110 101001 0000: 0Fh in three-of-six (C.2.3) and four chips that make no word. 54 is
-- 010101 00, and 010101 is no code word. 66 is the half-byte A in Manchester (6.4.1), 14 is 14h in NRZ (C.3.3).
-- Assumes nothing.
use mathlib.Core.Path.{◌≡◌, refl}
use mathlib.Core.List.{List, [], ◌∷◌, ◌++◌}
use Prim.Native.Nat.{ℕ, zero, suc}
use Rattle.std.specs.Prelude.{Option, Some, Result, Ok, Err}
use Rattle.answers.specs.declared.Refusal.{Refusal}
use Rattle.answers.specs.declared.Refusal.TheVariants.{Short, BadWord, OutOfRange}
use Rattle.chips.specs.Chips.{gather}
use Rattle.line.specs.Codes.{LineCode, code_of, number_for}
use Rattle.line.specs.OneWord.{word_read}
use Rattle.line.specs.declared.codes.Code.TheVariants.{Nrz, ThreeOfSix, Manchester}
use Rattle.chipreader.specs.declared.Place.{Place}
use Rattle.chipreader.specs.Steps.{start_of, step_of}

abbrev pub readings : LineCode → List ℕ → ℕ → Place → List Place
readings κ s zero p = []
readings κ s (suc n) p = step_of κ s p ∷ readings κ s n (step_of κ s p)

abbrev pub place_at : ℕ → Option (Result ℕ Refusal) → Place
place_at k a = record { at = k; answer = a }

pub readings_worked :
    readings (code_of ThreeOfSix) (0x5A ∷ 0x90 ∷ []) 3 (start_of (0x5A ∷ 0x90 ∷ []) 0)
    ++ readings (code_of ThreeOfSix) (0x54 ∷ []) 2 (start_of (0x54 ∷ []) 0)
    ++ readings (code_of Manchester) (0x66 ∷ []) 5 (start_of (0x66 ∷ []) 0)
    ++ readings (code_of Nrz) (0x14 ∷ []) 2 (start_of (0x14 ∷ []) 0)
    ++ readings (code_of Nrz) (0x14 ∷ []) 1 (start_of (0x14 ∷ []) 9)
    ≡ place_at 6 (Some (Ok 0)) ∷ place_at 12 (Some (Ok 15)) ∷ place_at 12 (Some (Err Short)) ∷ []
    ++ (place_at 0 (Some (Err (BadWord 0))) ∷ place_at 0 (Some (Err (BadWord 0))) ∷ [])
    ++ (place_at 2 (Some (Ok 1)) ∷ place_at 4 (Some (Ok 0)) ∷ place_at 6 (Some (Ok 1)) ∷ place_at 8 (Some (Ok 0)) ∷ [])
    ++ (place_at 8 (Some (Err Short)) ∷ [])
    ++ (place_at 8 (Some (Ok 0x14)) ∷ place_at 8 (Some (Err Short)) ∷ [])
    ++ (place_at 0 (Some (Err OutOfRange)) ∷ [])
unfolding start_of step_of word_read number_for gather
readings_worked = refl
