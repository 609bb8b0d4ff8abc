-- Which answer decoding and encoding give, and one word (specs/Decoding, specs/Encoding, specs/OneWord), from the facts
-- that the tests show.
--     decoded_out          10: the buffer is too long, or the start lies behind the last chip
--     decoded_short        1
--     decoded_bad          6, with the place of the first word that is none
--     decoded_no_room      4
--     decoded-accepted     0, with the bytes
--     Acceptable           all that acceptance asks
--     decoded_accepts      accepted exactly in the case of decoded-accepted: the other direction
--     encoded_no_room, encoded-accepted
--     word_read_out, word_read_short    one word: 10, 1
--     word_read_fits        else what the word stands for decides
--     word_read_within      a word that is accepted lies within the chips
use mathlib.Core.Path.{◌≡◌, refl, ◌∙◌}
use mathlib.Core.Bool.{Bool, true, false, cond}
use mathlib.Core.List.{List, ◌++◌}
use Prim.Native.Nat.{ℕ, ◌+◌, ◌<◌, ◌≤◌}
use native.Mathlib.Nat.{le_antisymm}
use native.Mathlib.Omega.{arith}
use borrow.Author.Tests.{lt-ltb, le-ltb, ltb-false}
use lib.Dec.{ltb}
use lib.ListN.{length, drop}
use Rattle.std.specs.Prelude.{Result, Ok, Err, ⊤}
use Rattle.answers.specs.Outcome.{Outcome, leaving}
use Rattle.answers.specs.declared.Refusal.{Refusal}
use Rattle.answers.specs.declared.Refusal.TheVariants.{Short, NoRoom, BadWord, OutOfRange}
use Rattle.chips.proofs.RangeLaws.{InBuffer, in_range_inside, in_range_true}
use Rattle.chips.specs.Chips.{word_at, chip_count, room_limit, in_range}
use Rattle.ground.proofs.CaseLaws.{zero_not_one}
use Rattle.line.proofs.GoodRunLaws.{good_run-le}
use Rattle.line.specs.Codes.{LineCode, word_value, words_in, chips_in}
use Rattle.line.specs.Decoding.{value_at, good_run, decoding, decoded}
use Rattle.line.specs.Encoding.{encoding, encoded_size, encoded}
use Rattle.line.specs.OneWord.{word_for, word_read}

pub record Acceptable (κ : LineCode) (s : List ℕ) (start n : ℕ) (d : List ℕ) : Type 0 where
  pub small : length s ≤ room_limit
  pub fits : start + chips_in κ n ≤ chip_count s
  pub words : good_run (value_at κ s start) (words_in κ n) ≡ words_in κ n
  pub room : n ≤ length d

-- a refusal is no acceptance
refuted : {A : Type 0} {r : Refusal} → ◌≡◌ {A = Result ⊤ Refusal} (Err r) (Ok tt) → A
refuted h = absurd (zero_not_one (cc))

abbrev accepted : List ℕ → Outcome (Result ⊤ Refusal)
accepted m = leaving (Ok tt) m

-- accepted, so no test refused
unrefused : (a b c e : Bool) (k : ℕ) (d m : List ℕ)
    → (cond a
    (cond b (leaving (Err Short) d)
    (cond c (leaving (Err (BadWord k)) d) (cond e (leaving (Err NoRoom) d) (accepted m))))
    (leaving (Err OutOfRange) d)).answer ≡ Ok tt → ((a ≡ true) × (b ≡ false)) × ((c ≡ false) × (e ≡ false))
unrefused false b c e k d m h = refuted h
unrefused true true c e k d m h = refuted h
unrefused true false true e k d m h = refuted h
unrefused true false false true k d m h = refuted h
unrefused true false false false k d m h = ((refl, refl), (refl, refl))

module _ (κ : LineCode) (s : List ℕ) (start n : ℕ) (d : List ℕ) where
  pub decoded_out : in_range s start ≡ false → decoded κ s start n d ≡ leaving (Err OutOfRange) d
  unfolding decoded
  decoded_out h = rw h

  pub decoded_short :
      InBuffer s start → chip_count s < start + chips_in κ n → decoded κ s start n d ≡ leaving (Err Short) d
  unfolding decoded
  decoded_short b h = rw (in_range_inside b, lt-ltb (chip_count s) (start + chips_in κ n) h)

  pub decoded_accepts : (decoded κ s start n d).answer ≡ Ok tt → Acceptable κ s start n d
  unfolding decoded
  decoded_accepts h =
      let run : ℕ = good_run (value_at κ s start) (words_in κ n) in
      let told = unrefused (in_range s start) (ltb (chip_count s) (start + chips_in κ n)) (ltb run (words_in κ n))
      (ltb (length d) n) run d _ h in
      record {
        small = (in_range_true {s = s} {at = start} told.0.0).small;
        fits = ltb-false (chip_count s) (start + chips_in κ n) told.0.1;
        words = le_antisymm (good_run-le (value_at κ s start) (words_in κ n)) (ltb-false run (words_in κ n) told.1.0);
        room = ltb-false (length d) n told.1.1;
      }

  module _ (small : length s ≤ room_limit) (fits : start + chips_in κ n ≤ chip_count s) where
    -- neither 10 nor 1
    decoded_fits : decoded κ s start n d
        ≡ cond (ltb (good_run (value_at κ s start) (words_in κ n)) (words_in κ n))
        (leaving (Err (BadWord (good_run (value_at κ s start) (words_in κ n)))) d)
        (cond (ltb (length d) n) (leaving (Err NoRoom) d) (accepted (decoding κ s start n ++ drop n d)))
    unfolding decoded
    decoded_fits =
        let b : InBuffer s start = record { small = small; inside = omega arith } in
        rw (in_range_inside b, le-ltb (chip_count s) (start + chips_in κ n) fits)

    pub decoded_bad : {k : ℕ} → k ≡ good_run (value_at κ s start) (words_in κ n) → k < words_in κ n
        → decoded κ s start n d ≡ leaving (Err (BadWord k)) d
    decoded_bad {k} run h = decoded_fits ∙ rw (← run, lt-ltb k (words_in κ n) h)

    module _ (run : good_run (value_at κ s start) (words_in κ n) ≡ words_in κ n) where
      -- only the room is left to judge
      decoded_words : decoded κ s start n d
          ≡ cond (ltb (length d) n) (leaving (Err NoRoom) d) (accepted (decoding κ s start n ++ drop n d))
      decoded_words = decoded_fits ∙ rw (run, le-ltb (words_in κ n) (words_in κ n) (omega arith))

      pub decoded_no_room : length d < n → decoded κ s start n d ≡ leaving (Err NoRoom) d
      decoded_no_room h = decoded_words ∙ rw (lt-ltb (length d) n h)

      pub decoded-accepted : n ≤ length d
          → decoded κ s start n d ≡ leaving (Ok tt) (decoding κ s start n ++ drop n d)
      decoded-accepted h = decoded_words ∙ rw (le-ltb (length d) n h)

module _ (κ : LineCode) (s d : List ℕ) where
  pub encoded_no_room : length d < encoded_size κ (length s)
      → encoded κ s d ≡ leaving (Err NoRoom) d
  unfolding encoded
  encoded_no_room h = rw (lt-ltb (length d) (encoded_size κ (length s)) h)

  pub encoded-accepted : encoded_size κ (length s) ≤ length d
      → encoded κ s d ≡ leaving (Ok (encoded_size κ (length s))) (encoding κ s ++ drop (encoded_size κ (length s)) d)
  unfolding encoded
  encoded-accepted h = rw (le-ltb (length d) (encoded_size κ (length s)) h)

-- the tests that stand before an accepted word did not refuse it
unrefused_word : (a b : Bool) (w : Result ℕ Refusal) {x : ℕ}
    → cond a (cond b (Err Short) w) (Err OutOfRange) ≡ Ok x → (a ≡ true) × (b ≡ false)
unrefused_word false b w e = (cc, cc)
unrefused_word true true w e = (refl, cc)
unrefused_word true false w e = (refl, refl)

module _ (κ : LineCode) (s : List ℕ) (at : ℕ) where
  pub word_read_out : in_range s at ≡ false → word_read κ s at ≡ Err OutOfRange
  unfolding word_read
  word_read_out h = rw h

  pub word_read_short : InBuffer s at → chip_count s < at + κ.chips → word_read κ s at ≡ Err Short
  unfolding word_read
  word_read_short b lt = rw (in_range_inside b, lt-ltb (chip_count s) (at + κ.chips) lt)

  pub word_read_fits : InBuffer s at → at + κ.chips ≤ chip_count s
      → word_read κ s at ≡ word_for (word_value κ (word_at s at κ.chips))
  unfolding word_read
  word_read_fits b le = rw (in_range_inside b, le-ltb (chip_count s) (at + κ.chips) le)

  pub word_read_within : {x : ℕ} → word_read κ s at ≡ Ok x
      → (length s ≤ room_limit) × (at + κ.chips ≤ chip_count s)
  unfolding word_read
  word_read_within e =
      let told = unrefused_word (in_range s at) (ltb (chip_count s) (at + κ.chips))
      (word_for (word_value κ (word_at s at κ.chips))) e in
      ((in_range_true {s = s} {at = at} told.0).small, ltb-false (chip_count s) (at + κ.chips) told.1)
