-- Decoding a named number of bytes (document 01, "Answer numbers": 10, 1, 6, 4).
--     value_at κ s start i        what word i stands for, counted from chip `start` of s
--     is_word v, number_in v       whether it is a code word; its number
--     good_run f m                how many of the words f 0, .. , f (m - 1) are code words before the first that is
--                                none
--     decoded_chip κ s start k    bit k of what the words from chip `start` on stand for, one word after the other
--     decoding κ s start n       the n bytes that the words from chip `start` on stand for
--     decoded κ s start n d      the answer, and what the lent memory holds then, d before
-- A place after the last chip is no start (10); the chip count itself is one, at which only 0 bytes can be decoded.
use Rattle.std.specs.Prelude.{Bool, cond, List, ◌++◌, ℕ, zero, suc, ◌+◌, ◌*◌, ltb, eqb, length, drop, Option, is_some, unwrap_or, Result, Ok, Err, ⊤}
use Rattle.answers.specs.Outcome.{Outcome, leaving}
use Rattle.answers.specs.declared.Refusal.{Refusal}
use Rattle.answers.specs.declared.Refusal.TheVariants.{Short, NoRoom, BadWord, OutOfRange}
use Rattle.chips.specs.Chips.{word_at, chip_count, in_range}
use Rattle.chips.specs.Packing.{spread, packed}
use Rattle.line.specs.Codes.{LineCode, word_value, words_in, chips_in}

abbrev pub value_at : LineCode → List ℕ → ℕ → ℕ → Option ℕ
value_at κ s start i = word_value κ (word_at s (start + i * κ.chips) κ.chips)

abbrev pub is_word : Option ℕ → Bool
is_word v = is_some v

abbrev pub number_in : Option ℕ → ℕ
number_in v = unwrap_or v 0

unfoldable pub good_run : (ℕ → Option ℕ) → ℕ → ℕ
good_run f zero = 0
good_run f (suc m) = cond (eqb (good_run f m) m) (cond (is_word (f m)) (suc m) m) (good_run f m)

abbrev pub decoded_chip : LineCode → List ℕ → ℕ → ℕ → ℕ
decoded_chip κ s start = spread κ.bits (λ i. number_in (value_at κ s start i))

unfoldable pub decoding : LineCode → List ℕ → ℕ → ℕ → List ℕ
decoding κ s start n = packed (8 * n) (decoded_chip κ s start)

unfoldable pub decoded : LineCode → List ℕ → ℕ → ℕ → List ℕ → Outcome (Result ⊤ Refusal)
decoded κ s start n d =
    cond (in_range s start)
    (cond (ltb (chip_count s) (start + chips_in κ n)) (leaving (Err Short) d)
    (cond (ltb (good_run (value_at κ s start) (words_in κ n)) (words_in κ n))
    (leaving (Err (BadWord (good_run (value_at κ s start) (words_in κ n)))) d)
    (cond (ltb (length d) n) (leaving (Err NoRoom) d)
    (leaving (Ok tt) (decoding κ s start n ++ drop n d)))))
    (leaving (Err OutOfRange) d)
