-- Encoding bytes (document 01, "Answer numbers": encoding 4; unused chips of the last byte are 0, bytes after it stay).
--     encoded_chip κ s k     chip k of the code words of s, first byte first, highest bits of a byte first
--     encoding κ s          the bytes that hold these chips
--     encoded_size κ n       how many bytes the chips of n bytes take
--     encoded κ s d         the answer, and what the lent memory holds then, d before
use Rattle.std.specs.Prelude.{cond, List, ◌++◌, ℕ, ◌+◌, ◌*◌, ◌/◌, ltb, length, drop, Result, Ok, Err}
use Rattle.answers.specs.Outcome.{Outcome, leaving}
use Rattle.answers.specs.declared.Refusal.{Refusal}
use Rattle.answers.specs.declared.Refusal.TheVariants.{NoRoom}
use Rattle.chips.specs.Chips.{word_at}
use Rattle.chips.specs.Packing.{spread, packed}
use Rattle.line.specs.Codes.{LineCode, chips_in}

abbrev pub encoded_chip : LineCode → List ℕ → ℕ → ℕ
encoded_chip κ s = spread κ.chips (λ i. κ.word_of (word_at s (i * κ.bits) κ.bits))

unfoldable pub encoding : LineCode → List ℕ → List ℕ
encoding κ s = packed (chips_in κ (length s)) (encoded_chip κ s)

abbrev pub encoded_size : LineCode → ℕ → ℕ
encoded_size κ n = (chips_in κ n + 7) / 8

unfoldable pub encoded : LineCode → List ℕ → List ℕ → Outcome (Result ℕ Refusal)
encoded κ s d =
    cond (ltb (length d) (encoded_size κ (length s))) (leaving (Err NoRoom) d)
    (leaving (Ok (encoded_size κ (length s))) (encoding κ s ++ drop (encoded_size κ (length s)) d))
