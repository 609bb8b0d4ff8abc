-- The frames that EN 13757-4:2019, Annex C prints, with their correction: theorems of the definitions. The standard
-- prints no correction bytes; these were worked out by programs apart from this one (docs/DECISIONS.md, D91).
--     corrected_C2    C.2 in format A
--     corrected_C3    C.3 in format B
-- Assumes nothing.
use mathlib.Core.Path.{◌≡◌, ap}
use mathlib.Core.List.{List, [], ◌∷◌, ◌++◌}
use Prim.Native.Nat.{ℕ}
use Rattle.ground.specs.Sums.{xors}
use Rattle.field.specs.Field.{up, times_bits, mul}
use Rattle.field.specs.Polynomials.{scaled}
use Rattle.frame.proofs.WorkedExamples.{bytes_C2, bytes_C3}
use Rattle.codewords.specs.CheckBytes.{step_in, rem_of}
use Rattle.codewords.specs.Corrections.{header_of, corrected}
use Rattle.codewords.proofs.NumbersLaws.{checks_of-numbers}

abbrev pub checks_C2 : List ℕ
checks_C2 =
    0x84 ∷ 0xEA ∷ 0x27 ∷ 0x69 ∷ 0x58 ∷ 0xEC ∷ 0x76 ∷ 0xA2 ∷ 0x96 ∷ 0x78 ∷ 0xBF ∷ 0x51 ∷ 0xDF ∷ 0xED ∷ 0x76 ∷ 0x61
    ∷ 0xD4 ∷ 0x6D ∷ 0x36 ∷ 0xB8 ∷ 0x52 ∷ 0x3B ∷ 0xAE ∷ 0x78 ∷ 0x7C ∷ 0xEF ∷ 0xFD ∷ 0x7B ∷ 0x00 ∷ 0x7E ∷ 0xC9 ∷ 0xC6 ∷ []

pub corrected_C2 : corrected bytes_C2 ≡ bytes_C2 ++ (0x21 ∷ 0x04 ∷ checks_C2)
unfolding step_in rem_of scaled xors mul times_bits up
corrected_C2 = ap (λ (c : List ℕ). bytes_C2 ++ (header_of 1 ++ c)) (checks_of-numbers bytes_C2)

abbrev pub checks_C3 : List ℕ
checks_C3 =
    0x9B ∷ 0x45 ∷ 0xF3 ∷ 0x8E ∷ 0x71 ∷ 0xEA ∷ 0xB5 ∷ 0xDB ∷ 0xC8 ∷ 0x01 ∷ 0x86 ∷ 0x02 ∷ 0x9E ∷ 0xF9 ∷ 0x80 ∷ 0xE1
    ∷ 0x88 ∷ 0xF8 ∷ 0x36 ∷ 0x8D ∷ 0x98 ∷ 0x3C ∷ 0xA0 ∷ 0x55 ∷ 0xF2 ∷ 0x1D ∷ 0x5F ∷ 0x34 ∷ 0xD4 ∷ 0xE8 ∷ 0x59 ∷ 0x35 ∷ []

pub corrected_C3 : corrected bytes_C3 ≡ bytes_C3 ++ (0x21 ∷ 0x04 ∷ checks_C3)
unfolding step_in rem_of scaled xors mul times_bits up
corrected_C3 = ap (λ (c : List ℕ). bytes_C3 ++ (header_of 1 ++ c)) (checks_of-numbers bytes_C3)
