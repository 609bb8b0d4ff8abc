-- Decoding undoes encoding and encoding undoes decoding, over every lawful line code and every place in a buffer.
--     Holds κ s start b     the chips of s from `start` on are those of the code words of b
--     value_at_holds         then word i stands for the bits of b that it codes
--     good_run_encode        so every word is a code word
--     decode_encode         and the bytes decoded there are b
--     encode_decode         where every word is a code word, the chips are those of the bytes decoded there
--     Encodes κ s start n   some n bytes whose code words stand there
--     good_run_accepts       all words of n bytes are code words exactly when the chips are the encoding of some n
--                            bytes
--     decoded-encoded, encoded-decoded    the same of the answers: decoding accepts what was encoded, and nothing else
--     encoding_holds        the encoding itself holds b at its start, wherever it stands among other bytes
--     chip_at-encoding       chip k of the encoding; 0 behind the last
--     decoding-encoding     decoding what was encoded gives back the bytes
--     encoding-decoding     encoding what was decoded gives back the chips
--     div-lt_of-lt-mul, words_in_mul_bits    which word a chip or bit belongs to
--     length-encoding, length-decoding, decoding-lt
use mathlib.Core.Path.{◌≡◌, refl, ap, sym, ◌∙◌}
use mathlib.Core.Bool.{true}
use mathlib.Core.Logic.{◌↔◌}
use mathlib.Core.List.{List, ◌++◌}
use Prim.Native.Nat.{ℕ, ◌+◌, ◌*◌, ◌/◌, ◌<◌, ◌≤◌}
use native.Mathlib.Nat.{mul_assoc, zero-add, div-lt_iff_lt-mul}
use native.Mathlib.Omega.{arith}
use lib.ListN.{length, get_or, drop}
use lib.Seq.{ext_get_or}
use Rattle.std.specs.Prelude.{Option, Some, None, Ok}
use Rattle.answers.specs.Outcome.{leaving}
use Rattle.chips.proofs.GatherLaws.{gather-lt, chip_at-lt}
use Rattle.chips.proofs.PackingLaws.{gather_same, spread_gather, get_or_tabulate, length-tabulate, packed_whole, length_packed, packed_lt, chip_at_packed, word_at_packed, up_to_within, chip_at_middle}
use Rattle.chips.proofs.WindowLaws.{word_at_byte}
use Rattle.chips.specs.Chips.{gather, chip_at, word_at, chip_count, room_limit}
use Rattle.chips.specs.Packing.{tabulate}
use Rattle.ground.proofs.CaseLaws.{zero_not_one}
use Rattle.line.proofs.AnswerLaws.{decoded-accepted, decoded_accepts}
use Rattle.line.proofs.CodeLaws.{Lawful, word_value_is}
use Rattle.line.proofs.DecodingLaws.{gather-decoded_chip}
use Rattle.line.proofs.DigitLaws.{mul-add-le}
use Rattle.line.proofs.EncodingLaws.{gather-encoded_chip}
use Rattle.line.proofs.GoodRunLaws.{good_run-all, good_run_whole}
use Rattle.line.specs.Codes.{LineCode, word_value, words_in, chips_in}
use Rattle.line.specs.Decoding.{value_at, is_word, number_in, good_run, decoded_chip, decoding, decoded}
use Rattle.line.specs.Encoding.{encoded_chip, encoding, encoded_size}
use Rattle.line.specs.Inner.{sent_chip}

abbrev pub Holds : LineCode → List ℕ → ℕ → List ℕ → Type 0
Holds κ s start b = (k : ℕ) → k < chips_in κ (length b) → chip_at s (start + k) ≡ encoded_chip κ b k

-- the word that chip or bit k belongs to
pub div-lt_of-lt-mul : (w k m : ℕ) → 0 < w → k < m * w → k / w < m
div-lt_of-lt-mul w k m pos h = (div-lt_iff_lt-mul pos).1 h

-- n bytes are so many words' bits
pub words_in_mul_bits : {κ : LineCode} → Lawful κ → (n : ℕ) → words_in κ n * κ.bits ≡ 8 * n
words_in_mul_bits law n = rw (mul_assoc, law.whole) (omega arith)

module _ {κ : LineCode} (law : Lawful κ) (s : List ℕ) (start : ℕ) where
  module _ (b : List ℕ) (holds : Holds κ s start b) where
    word_at_holds : (i : ℕ) → i < words_in κ (length b)
        → word_at s (start + i * κ.chips) κ.chips ≡ gather (encoded_chip κ b) (i * κ.chips) κ.chips
    word_at_holds i h =
        gather_same (chip_at s) (encoded_chip κ b) (start + i * κ.chips) (i * κ.chips) κ.chips
        (λ k lt. let place : start + i * κ.chips + k ≡ start + (i * κ.chips + k) = omega arith in
        rw place (holds (i * κ.chips + k) (omega (arith, mul-add-le i (words_in κ (length b)) κ.chips h))))

    pub value_at_holds : (i : ℕ) → i < words_in κ (length b)
        → value_at κ s start i ≡ Some (word_at b (i * κ.bits) κ.bits)
    value_at_holds i h =
        ap (word_value κ) (word_at_holds i h ∙ gather-encoded_chip law b i)
        ∙ law.back (word_at b (i * κ.bits) κ.bits) (gather-lt (chip_at b) (chip_at-lt b) (i * κ.bits) κ.bits)

    pub good_run_encode : good_run (value_at κ s start) (words_in κ (length b)) ≡ words_in κ (length b)
    good_run_encode = good_run_whole (value_at κ s start) (words_in κ (length b))
        (λ i h. ap is_word (value_at_holds i h))

    decoded_chip_holds : (k : ℕ) → k < 8 * length b → decoded_chip κ s start k ≡ chip_at b k
    decoded_chip_holds k h =
        let i : ℕ = k / κ.bits in
        let bits : k < words_in κ (length b) * κ.bits = rw (words_in_mul_bits law (length b)) h in
        let in-word = div-lt_of-lt-mul κ.bits k (words_in κ (length b)) law.bits_pos bits in
        let here : 0 + i * κ.bits ≡ i * κ.bits = omega arith in
        rw (value_at_holds i in-word, ← here)
        (spread_gather (chip_at b) (chip_at-lt b) 0 κ.bits k law.bits_pos ∙ rw (zero-add k))

    gather_holds : (j : ℕ) → j < length b → get_or b j 0 < 256
        → gather (decoded_chip κ s start) (8 * j) 8 ≡ get_or b j 0
    gather_holds j h byte =
        gather_same (decoded_chip κ s start) (chip_at b) (8 * j) (8 * j) 8
        (λ k l. decoded_chip_holds (8 * j + k) (omega arith))
        ∙ word_at_byte b j byte

    pub decode_encode : ((j : ℕ) → get_or b j 0 < 256) → decoding κ s start (length b) ≡ b
    unfolding decoding
    decode_encode bytes =
        let byte : ℕ → ℕ = λ j. gather (decoded_chip κ s start) (8 * j) 8 in
        packed_whole (length b) (decoded_chip κ s start)
        ∙ ext_get_or 0 (tabulate byte (length b)) b (length-tabulate _ (length b))
        (λ j h. let lt : j < length b = rw length-tabulate at h in
        get_or_tabulate byte (length b) j lt ∙ gather_holds j lt (bytes j))

module _ (κ : LineCode) (s : List ℕ) (start n : ℕ) where
  pub length-decoding : length (decoding κ s start n) ≡ n
  unfolding decoding
  length-decoding = length_packed (8 * n) (decoded_chip κ s start) ∙ omega arith

  pub decoding-lt : (j : ℕ) → get_or (decoding κ s start n) j 0 < 256
  unfolding decoding
  decoding-lt j = packed_lt (8 * n) (decoded_chip κ s start) (λ k. omega arith) j

-- the code word of what a word stands for is that word
word_of_number_in : (κ : LineCode) (y : ℕ) (v : Option ℕ) → word_value κ y ≡ v → is_word v ≡ true
    → κ.word_of (number_in v) ≡ y
word_of_number_in κ y (Some x) e t = (word_value_is κ y x e).1
word_of_number_in κ y None e t = absurd (zero_not_one (cc))

module _ {κ : LineCode} (law : Lawful κ) (s : List ℕ) (start n : ℕ)
    (run : good_run (value_at κ s start) (words_in κ n) ≡ words_in κ n) where
  word_of_decoding : (i : ℕ) → i < words_in κ n
      → κ.word_of (word_at (decoding κ s start n) (i * κ.bits) κ.bits) ≡ word_at s (start + i * κ.chips) κ.chips
  unfolding decoding
  word_of_decoding i h =
      let inside : i * κ.bits + κ.bits ≤ 8 * n
      = rw (words_in_mul_bits law n) at (mul-add-le i (words_in κ n) κ.bits h) in
      rw (
        word_at_packed (8 * n) (decoded_chip κ s start) (λ k. omega arith) (i * κ.bits) κ.bits inside,
        gather-decoded_chip κ s start i,
      )
      (word_of_number_in κ (word_at s (start + i * κ.chips) κ.chips) (value_at κ s start i) refl
      (good_run-all (value_at κ s start) (words_in κ n) run i h))

  pub encode_decode : Holds κ s start (decoding κ s start n)
  encode_decode k h =
      let pos : 0 < κ.chips = omega (arith, law.bits_pos, law.bits-le) in
      let size : k < words_in κ n * κ.chips = rw (length-decoding κ s start n) at h in
      sym (rw (word_of_decoding (k / κ.chips) (div-lt_of-lt-mul κ.chips k (words_in κ n) pos size))
      (spread_gather (chip_at s) (chip_at-lt s) start κ.chips k pos))

-- the n bytes that the chips of s from `start` on encode
pub record Encodes (κ : LineCode) (s : List ℕ) (start n : ℕ) : Type 0 where
  pub bytes : List ℕ
  pub count : length bytes ≡ n
  pub below : (j : ℕ) → get_or bytes j 0 < 256
  pub holds : Holds κ s start bytes

module _ {κ : LineCode} (law : Lawful κ) (s : List ℕ) (start n : ℕ) where
  pub good_run_accepts : (good_run (value_at κ s start) (words_in κ n) ≡ words_in κ n) ↔ Encodes κ s start n
  good_run_accepts = (
    λ run. record {
      bytes = decoding κ s start n;
      count = length-decoding κ s start n;
      below = decoding-lt κ s start n;
      holds = encode_decode law s start n run;
    },
    λ e. rw e.count at (good_run_encode law s start e.bytes e.holds),
  )

module _ (κ : LineCode) (b : List ℕ) where
  pub length-encoding : length (encoding κ b) ≡ encoded_size κ (length b)
  unfolding encoding
  length-encoding = length_packed (chips_in κ (length b)) (encoded_chip κ b)

  pub chip_at-encoding : (k : ℕ) → chip_at (encoding κ b) k ≡ sent_chip κ b k
  unfolding encoding
  chip_at-encoding = chip_at_packed (chips_in κ (length b)) (encoded_chip κ b) (λ k. omega arith)

  pub encoding_holds : (pre post : List ℕ) → Holds κ (pre ++ (encoding κ b ++ post)) (8 * length pre) b
  encoding_holds pre post k h =
      chip_at_middle pre (encoding κ b) post k (rw length-encoding (omega arith))
      ∙ (chip_at-encoding k ∙ up_to_within (chips_in κ (length b)) (encoded_chip κ b) k h)

-- the public answers: bytes that were encoded are decoded, and only such
module _ {κ : LineCode} (law : Lawful κ) (s : List ℕ) (start : ℕ) (d : List ℕ) where
  pub decoded-encoded : (b : List ℕ) → ((j : ℕ) → get_or b j 0 < 256) → Holds κ s start b
      → length s ≤ room_limit → start + chips_in κ (length b) ≤ chip_count s → length b ≤ length d
      → decoded κ s start (length b) d ≡ leaving (Ok tt) (b ++ drop (length b) d)
  decoded-encoded b bytes holds small fits room =
      decoded-accepted κ s start (length b) d small fits (good_run_encode law s start b holds) room
      ∙ rw (decode_encode law s start b holds bytes)

  pub encoded-decoded : (n : ℕ) → (decoded κ s start n d).answer ≡ Ok tt → Holds κ s start (decoding κ s start n)
  encoded-decoded n h = encode_decode law s start n (decoded_accepts κ s start n d h).words

-- both round trips in one line each
module _ {κ : LineCode} (law : Lawful κ) where
  pub decoding-encoding : (b pre post : List ℕ) → ((j : ℕ) → get_or b j 0 < 256)
      → decoding κ (pre ++ (encoding κ b ++ post)) (8 * length pre) (length b) ≡ b
  decoding-encoding b pre post bytes =
      decode_encode law (pre ++ (encoding κ b ++ post)) (8 * length pre) b (encoding_holds κ b pre post) bytes

  pub encoding-decoding : (s : List ℕ) (start n : ℕ) → good_run (value_at κ s start) (words_in κ n) ≡ words_in κ n
      → (k : ℕ) → k < chips_in κ n → chip_at (encoding κ (decoding κ s start n)) k ≡ chip_at s (start + k)
  encoding-decoding s start n run k h =
      let b : List ℕ = decoding κ s start n in
      let inside : k < chips_in κ (length b) = rw (length-decoding κ s start n) h in
      chip_at-encoding κ b k
      ∙ (up_to_within (chips_in κ (length b)) (encoded_chip κ b) k inside
      ∙ sym (encode_decode law s start n run k inside))
