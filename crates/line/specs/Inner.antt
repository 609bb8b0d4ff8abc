-- What the crate's inner functions promise each other. Nobody has to believe it: no promise of a public function and no
-- demand cites it.
--     unit_of κ           how many chips a byte takes
--     AllWords κ s start n    the words of the n bytes from chip `start` on are code words
--     NotWords κ s start n r    they are not all code words, and the refusal r has the place of the first that is none
--     byte_read κ s at    the byte whose words begin at chip `at`, or the place of the first that is no code word
--     sent_chip κ s k     chip k of what encoding writes: behind the code words of s every chip is 0
use Rattle.std.specs.Prelude.{cond, ◌≡◌, List, ℕ, ◌*◌, ◌/◌, ◌<◌, ltb, length, Result, Ok, Err}
use Rattle.answers.specs.declared.Refusal.{Refusal}
use Rattle.answers.specs.declared.Refusal.TheVariants.{BadWord}
use Rattle.chips.specs.Chips.{gather}
use Rattle.chips.specs.Packing.{up_to}
use Rattle.line.specs.Codes.{LineCode, words_in, chips_in}
use Rattle.line.specs.Decoding.{value_at, good_run, decoded_chip}
use Rattle.line.specs.Encoding.{encoded_chip}

abbrev pub unit_of : LineCode → ℕ
unit_of κ = 8 / κ.bits * κ.chips

abbrev pub AllWords : LineCode → List ℕ → ℕ → ℕ → Type 0
AllWords κ s start n = good_run (value_at κ s start) (words_in κ n) ≡ words_in κ n

abbrev pub NotWords : LineCode → List ℕ → ℕ → ℕ → Refusal → Type 0
NotWords κ s start n r =
    (good_run (value_at κ s start) (words_in κ n) < words_in κ n)
    × (r ≡ BadWord (good_run (value_at κ s start) (words_in κ n)))

unfoldable pub byte_read : LineCode → List ℕ → ℕ → Result ℕ ℕ
byte_read κ s at =
    cond (ltb (good_run (value_at κ s at) (8 / κ.bits)) (8 / κ.bits))
    (Err (good_run (value_at κ s at) (8 / κ.bits)))
    (Ok (gather (decoded_chip κ s at) 0 8))

abbrev pub sent_chip : LineCode → List ℕ → ℕ → ℕ
sent_chip κ s = up_to (chips_in κ (length s)) (encoded_chip κ s)
