-- Words that are there and are code words (specs/Receiving, `after_words`), and the bytes that they stand for.
--     Through κ s at n          nothing keeps n bytes from being decoded from chip `at` on: s is not too long, the
--                               words are all there, all are code words
--     after_words_cases          whatever holds of its three refusals, and of what comes next behind such words, holds
--     after_words_through        behind such words what comes next decides
--     through_le                fewer bytes of the same words
--     get_or-decoding             the first of some decoded bytes is the length byte
use Rattle.std.specs.Prelude.{Result, Err}
use mathlib.Core.Bool.{Bool, true, false, cond}
use mathlib.Core.List.{List}
use mathlib.Core.Path.{◌≡◌, refl}
use Prim.Native.Nat.{ℕ, ◌+◌, ◌/◌, ◌≤◌, ◌<◌}
use native.Mathlib.Nat.{mul-le-mul_right}
use native.Mathlib.Omega.{arith}
use borrow.Author.Tests.{le-ltb, ltb-false}
use lib.Dec.{ltb}
use lib.ListN.{length, get_or}
use Rattle.answers.specs.Outcome.{Outcome, leaving}
use Rattle.answers.specs.declared.Refusal.{Refusal}
use Rattle.chips.specs.Chips.{chip_count, room_limit, in_range}
use Rattle.chips.proofs.RangeLaws.{InBuffer, in_range_inside, in_range_true}
use Rattle.line.specs.Codes.{LineCode, words_in, chips_in}
use Rattle.line.specs.Decoding.{value_at, good_run, decoding}
use Rattle.line.proofs.HeadLaws.{decoding_head}
use Rattle.line.proofs.GoodRunLaws.{good_run-le, good_run-all, good_run_whole}
use Rattle.radio.specs.declared.Reception.{Reception}
use Rattle.radio.specs.Receiving.{after_words, length_at}

pub record Through (κ : LineCode) (s : List ℕ) (at n : ℕ) : Type 0 where
  pub small : length s ≤ room_limit
  pub there : at + chips_in κ n ≤ chip_count s
  pub words : good_run (value_at κ s at) (words_in κ n) ≡ words_in κ n

module _ {κ : LineCode} {s : List ℕ} {at n : ℕ} (p : Through κ s at n) {m : ℕ} (h : m ≤ n) where
  words_in_le : words_in κ m ≤ words_in κ n
  words_in_le = mul-le-mul_right (8 / κ.bits) h

  there-le : at + chips_in κ m ≤ chip_count s
  there-le = omega (arith, p.there, mul-le-mul_right κ.chips words_in_le)

  words-le : good_run (value_at κ s at) (words_in κ m) ≡ words_in κ m
  words-le =
      let all = good_run-all (value_at κ s at) (words_in κ n) p.words in
      good_run_whole (value_at κ s at) (words_in κ m) (λ i l. all i (omega (arith, words_in_le)))

  pub through_le : Through κ s at m
  through_le = record { small = p.small; there = there-le; words = words-le }

pub get_or-decoding :
    (κ : LineCode) (s : List ℕ) (at n : ℕ) → 0 < n → get_or (decoding κ s at n) 0 0 ≡ length_at κ s at
get_or-decoding κ s at n h = decoding_head κ s at n 1 h (omega arith)

module _ (κ : LineCode) (s : List ℕ) (at n : ℕ) (d : List ℕ) (next : Outcome (Result Reception Refusal)) where
  abbrev good : ℕ
  good = good_run (value_at κ s at) (words_in κ n)

  -- what the tests say, where none refuses
  through_tested :
      in_range s at ≡ true → ltb (chip_count s) (at + chips_in κ n) ≡ false → ltb good (words_in κ n) ≡ false
      → Through κ s at n
  through_tested e f g =
      let there = ltb-false (chip_count s) (at + chips_in κ n) f in
      let words = ltb-false good (words_in κ n) g in
      let all : good ≡ words_in κ n = omega (arith, good_run-le (value_at κ s at) (words_in κ n)) in
      let start : InBuffer s at = in_range_true e in
      record { small = start.small; there = there; words = all }

  module _ (P : Outcome (Result Reception Refusal) → Type 0) (outside : P (leaving (Err Refusal.OutOfRange) d)) where
    module _
        (short : P (leaving (Err Refusal.Short) d))
        (bad : (i : ℕ) → P (leaving (Err (Refusal.BadWord i)) d))
      where
        by_tests :
            (Through κ s at n → P next) → (x : Bool) → in_range s at ≡ x
            → (u : Bool) → ltb (chip_count s) (at + chips_in κ n) ≡ u → (w : Bool) → ltb good (words_in κ n) ≡ w
            → P (cond x
            (cond u (leaving (Err Refusal.Short) d)
            (cond w (leaving (Err (Refusal.BadWord good)) d) next))
            (leaving (Err Refusal.OutOfRange) d))
        by_tests on true e false f false g = on (through_tested e f g)
        by_tests on true e false f true g = bad good
        by_tests on true e true f w g = short
        by_tests on false e u f w g = outside

        pub after_words_cases : (Through κ s at n → P next) → P (after_words κ s at n d next)
        unfolding after_words
        after_words_cases on =
            by_tests on (in_range s at) refl (ltb (chip_count s) (at + chips_in κ n)) refl (ltb good (words_in κ n))
            refl

  pub after_words_through : Through κ s at n → after_words κ s at n d next ≡ next
  unfolding after_words
  after_words_through p =
      let start : InBuffer s at = record { small = p.small; inside = omega (arith, p.there) } in
      let words = le-ltb good (words_in κ n) (omega (arith, p.words)) in
      rw (in_range_inside start, le-ltb (chip_count s) (at + chips_in κ n) p.there, words)
