-- The three line codes (EN 13757-4:2019): NRZ (9.4.1), three-of-six (7.4.2, Table 10), Manchester (6.4.1, 6.4.2).
-- A line code writes each group of `bits` bits, highest first, as a word of `chips` chips, first chip highest.
--     LineCode         bits and chips of a word, and word_of, the code word of each number below 2 ^ bits
--     code_of           which code each case of the enum Code is: the only place where the three differ
--     code_words        three-of-six: the code words of 0 to 15
--     word_value κ y    the number whose code word y is; None where y is no code word
--     words_in κ n      how many words n bytes take
--     chips_in κ n      how many chips n bytes take
use Rattle.std.specs.Prelude.{cond, List, [], ◌∷◌, ℕ, zero, suc, ◌*◌, ◌/◌, ◌^◌, eqb, get_or, Option, Some, None}
use Rattle.line.specs.declared.codes.Code.{Code}
use Rattle.line.specs.declared.codes.Code.TheVariants.{Nrz, ThreeOfSix, Manchester}

pub record LineCode : Type 0 where
  pub bits : ℕ
  pub chips : ℕ
  pub word_of : ℕ → ℕ

abbrev pub code_words : List ℕ
code_words = 22 ∷ 13 ∷ 14 ∷ 11 ∷ 28 ∷ 25 ∷ 26 ∷ 19 ∷ 44 ∷ 37 ∷ 38 ∷ 35 ∷ 52 ∷ 49 ∷ 50 ∷ 41 ∷ []

-- NRZ: a byte is its own word. Manchester: bit 0 is chips 10, bit 1 is chips 01.
abbrev pub code_of : Code → LineCode
code_of Nrz = record { bits = 8; chips = 8; word_of = λ x. x }
code_of ThreeOfSix = record { bits = 4; chips = 6; word_of = λ x. get_or code_words x 0 }
code_of Manchester = record { bits = 1; chips = 2; word_of = λ x. get_or (2 ∷ 1 ∷ []) x 0 }

-- the number below n whose word is y
unfoldable pub number_for : (ℕ → ℕ) → ℕ → ℕ → Option ℕ
number_for word y zero = None
number_for word y (suc n) = cond (eqb (word n) y) (Some n) (number_for word y n)

abbrev pub word_value : LineCode → ℕ → Option ℕ
word_value κ y = number_for κ.word_of y (2 ^ κ.bits)

abbrev pub words_in : LineCode → ℕ → ℕ
words_in κ n = n * (8 / κ.bits)

abbrev pub chips_in : LineCode → ℕ → ℕ
chips_in κ n = words_in κ n * κ.chips
