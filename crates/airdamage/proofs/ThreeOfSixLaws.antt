-- Three-of-six, 22 chips. They can reach five words, the last two chips of the first and the first two of the last.
-- Code words that differ only in the last two chips stand for half-bytes whose last two bits differ, both; code words
-- that differ only in the first two, for half-bytes with the same last bit. So the bits lie within 17, the first two
-- of which differ together.
--     ends_told               that of the code words, by one computed test
--     first_word, last_word   what it says of the first and of the last word
--     narrows_three_of_six    the law
-- Assumes nothing.
use mathlib.Core.Bool.{Bool, true, false, not, ◌&&◌, ◌||◌}
use mathlib.Core.List.{List}
use mathlib.Core.Logic.{inl, inr}
use mathlib.Core.Path.{◌≡◌, sym, ap, ◌∙◌}
use Prim.Native.Nat.{ℕ, zero, suc, ◌+◌, ◌*◌, ◌-◌, ◌/◌, ◌%◌, ◌≤◌, ◌<◌, ◌^◌}
use native.Mathlib.Nat.{div-one}
use native.Mathlib.Omega.{arith}
use borrow.Author.Tests.{eq-eqb, eqb-true, eqb-false, ltb-true, ltb-false}
use lib.Bits.{bit_xor}
use lib.Dec.{eqb, ltb, T, eqb→eq}
use lib.Ieee.Fits.{and_l, and_r}
use lib.ListN.{length, get_or}
use lib.Pow.{low}
use Rattle.ground.proofs.CaseLaws.{by_test, zero_not_one}
use Rattle.ground.proofs.TableLaws.{all_below, all_below_at}
use Rattle.chips.specs.Chips.{chip_at, word_at, gather}
use Rattle.chips.proofs.GatherLaws.{gather-add, gather-lt, chip_at-lt}
use Rattle.chips.proofs.PackingLaws.{gather_same}
use Rattle.line.specs.declared.codes.Code.TheVariants.{ThreeOfSix}
use Rattle.line.specs.Codes.{code_of, code_words}
use Rattle.line.proofs.CodeLaws.{lawful, word_value_is}
use Rattle.line.proofs.TripLaws.{Holds, value_at_holds}
use Rattle.airdamage.specs.ChipDamage.{Flipped}
use Rattle.airdamage.proofs.WordLaws.{firm_three_of_six, unflipped}
use Rattle.airdamage.proofs.ChipLaws.{Differing, Together, FlippedIn, Narrows, bit_word, firm_bit}

word : ℕ → ℕ
word x = get_or code_words x 0

ends_alike : ℕ → ℕ → Bool
ends_alike x y =
    (not (eqb (word x / 4) (word y / 4))
    || (eqb (x / 4) (y / 4) && eqb (bit_xor (x / 2 % 2) (y / 2 % 2)) (bit_xor (x % 2) (y % 2))))
    && (not (eqb (word x % 16) (word y % 16)) || eqb (x % 2) (y % 2))

ends_told : T (all_below (λ x. all_below (ends_alike x) 16) 16)
unfolding ends_alike word
ends_told = tt

ends_at : (x y : ℕ) → x < 16 → y < 16 → T (ends_alike x y)
ends_at x y hx hy =
    all_below_at (ends_alike x) 16 (all_below_at (λ u. all_below (ends_alike u) 16) 16 ends_told x hx) y hy

follows : (a b : Bool) → a ≡ true → T (not a || b) → T b
follows true b e t = t
follows false b e t = absurd (zero_not_one cc)

first_alike :
    (x y : ℕ) → x < 16 → y < 16 → word x / 4 ≡ word y / 4
    → (x / 4 ≡ y / 4) × (bit_xor (x / 2 % 2) (y / 2 % 2) ≡ bit_xor (x % 2) (y % 2))
unfolding ends_alike
first_alike x y hx hy same =
    let a = eqb (word x / 4) (word y / 4) in
    let t = follows a _ (eq-eqb (word x / 4) (word y / 4) same) (and_l (not a || _) _ (ends_at x y hx hy)) in
    (eqb→eq (x / 4) (y / 4) (and_l (eqb (x / 4) (y / 4)) _ t), eqb→eq _ _ (and_r (eqb (x / 4) (y / 4)) _ t))

last_alike : (x y : ℕ) → x < 16 → y < 16 → word x % 16 ≡ word y % 16 → x % 2 ≡ y % 2
unfolding ends_alike
last_alike x y hx hy same =
    let a = eqb (word x % 16) (word y % 16) in
    eqb→eq (x % 2) (y % 2)
    (follows a _ (eq-eqb (word x % 16) (word y % 16) same)
    (and_r (not (eqb (word x / 4) (word y / 4)) || _) _ (ends_at x y hx hy)))

-- four of six chips, as the word has them
word_first : (s : List ℕ) (a : ℕ) → word_at s a 6 / 4 ≡ word_at s a 4
unfolding gather
word_first s a = omega (arith, chip_at-lt s (a + 4), chip_at-lt s (a + 5))

word_last : (s : List ℕ) (a : ℕ) → word_at s a 6 % 16 ≡ word_at s (a + 2) 4
word_last s a =
    ap (λ (n : ℕ). n % 16) (gather-add (chip_at s) a 2 4)
    ∙ low (word_at s a 2) 4 (gather-lt (chip_at s) (chip_at-lt s) (a + 2) 4)

-- ---- two frames whose inverted chips begin with the last two of word j

module _
    (s t : List ℕ) (at : ℕ) (b q : List ℕ)
    (hs : Holds (code_of ThreeOfSix) s at b) (ht : Holds (code_of ThreeOfSix) t at q) where
  abbrev x : ℕ → ℕ
  x i = word_at b (i * 4) 4

  abbrev y : ℕ → ℕ
  y i = word_at q (i * 4) 4

  x_lt : (i : ℕ) → x i < 16
  x_lt i = gather-lt (chip_at b) (chip_at-lt b) (i * 4) 4

  y-lt : (i : ℕ) → y i < 16
  y-lt i = gather-lt (chip_at q) (chip_at-lt q) (i * 4) 4

  word_b : (i : ℕ) → 4 * i + 3 < 8 * length b → word (x i) ≡ word_at s (at + i * 6) 6
  unfolding word
  word_b i h =
      (word_value_is (code_of ThreeOfSix) (word_at s (at + i * 6) 6) (x i)
      (value_at_holds (lawful ThreeOfSix) s at b hs i (omega arith))).1

  word_q : (i : ℕ) → 4 * i + 3 < 8 * length q → word (y i) ≡ word_at t (at + i * 6) 6
  unfolding word
  word_q i h =
      (word_value_is (code_of ThreeOfSix) (word_at t (at + i * 6) 6) (y i)
      (value_at_holds (lawful ThreeOfSix) t at q ht i (omega arith))).1

  -- chips that are not inverted
  four_same : (a : ℕ) → ((k : ℕ) → k < 4 → Flipped s t (a + k) → ⊥) → word_at s a 4 ≡ word_at t a 4
  four_same a same =
      sym (gather_same (chip_at t) (chip_at s) a a 4 (λ k h. unflipped s t (a + k) (same k h)))

  module _
      (w j : ℕ) (le : w ≤ 22)
      (within : FlippedIn s t (at + 6 * j + 4) w) where
    first_word :
        4 * j + 3 < 8 * length b → 4 * j + 3 < 8 * length q
        → (x j / 4 ≡ y j / 4) × (bit_xor (x j / 2 % 2) (y j / 2 % 2) ≡ bit_xor (x j % 2) (y j % 2))
    first_word in_b in-q =
        first_alike (x j) (y j) (x_lt j) (y-lt j)
        (ap (λ (n : ℕ). n / 4) (word_b j in_b) ∙ word_first s (at + j * 6)
        ∙ four_same (at + j * 6) (λ k h one. omega (arith, (within (at + j * 6 + k) one).0))
        ∙ sym (word_first t (at + j * 6)) ∙ ap (λ (n : ℕ). n / 4) (sym (word_q j in-q)))

    last_word :
        4 * (j + 4) + 3 < 8 * length b → 4 * (j + 4) + 3 < 8 * length q → x (j + 4) % 2 ≡ y (j + 4) % 2
    last_word in_b in-q =
        let a = at + (j + 4) * 6 in
        last_alike (x (j + 4)) (y (j + 4)) (x_lt (j + 4)) (y-lt (j + 4))
        (ap (λ (n : ℕ). n % 16) (word_b (j + 4) in_b) ∙ word_last s a
        ∙ four_same (a + 2) (λ k h one. omega (arith, (within (a + 2 + k) one).1))
        ∙ sym (word_last t a) ∙ ap (λ (n : ℕ). n % 16) (sym (word_q (j + 4) in-q)))

    -- bit r of half-byte i
    bits_b : (i r : ℕ) → r < 4 → chip_at b (4 * i + r) ≡ x i / 2 ^ (3 - r) % 2
    bits_b i r h =
        let word-place : (4 * i + r) / 4 ≡ i = omega arith in
        let bit-place : (4 * i + r) % 4 ≡ r = omega arith in
        rw (word-place, bit-place) at (bit_word b 4 (4 * i + r) (omega arith))

    bits_q : (i r : ℕ) → r < 4 → chip_at q (4 * i + r) ≡ y i / 2 ^ (3 - r) % 2
    bits_q i r h =
        let word-place : (4 * i + r) / 4 ≡ i = omega arith in
        let bit-place : (4 * i + r) % 4 ≡ r = omega arith in
        rw (word-place, bit-place) at (bit_word q 4 (4 * i + r) (omega arith))

    together : Together b q (4 * j + 2)
    together =
        record {
          even = omega arith;
          both =
              λ in_b in-q.
              let next : suc (4 * j + 2) ≡ 4 * j + 3 = omega arith in
              let two : 2 < 4 = omega arith in
              let three : 3 < 4 = omega arith in
              rw (next, bits_b j 2 two, bits_q j 2 two, bits_b j 3 three, bits_q j 3 three)
              (simp div-one (first_word (omega arith) (omega arith)).1);
        }

    -- the bits of a half-byte that differ
    high_same : (v u r : ℕ) → v / 4 ≡ u / 4 → r < 2 → v / 2 ^ (3 - r) % 2 ≡ u / 2 ^ (3 - r) % 2
    high_same v u zero same h = omega arith
    high_same v u (suc zero) same h = omega arith
    high_same v u (suc (suc r)) same h = absurd (omega arith)

    module _
        (p i r : ℕ) (small : r < 4) (place : 4 * i + r ≡ p) (in_b : p < 8 * length b) (in-q : p < 8 * length q)
        (other : x i / 2 ^ (3 - r) % 2 ≡ y i / 2 ^ (3 - r) % 2 → ⊥) where
      -- in the first word only the last two
      from_second : j ≤ i → 4 * j + 2 ≤ p
      from_second past =
          by_test (ltb p (4 * j + 2))
          (λ e.
          let before = ltb-true p (4 * j + 2) e in
          let here : i ≡ j = omega arith in
          let alike = (first_word (omega arith) (omega arith)).0 in
          let same = ap (λ (n : ℕ). x n / 4) here ∙ alike ∙ sym (ap (λ (n : ℕ). y n / 4) here) in
          absurd (other (high_same (x i) (y i) r same (omega arith))))
          (λ e. ltb-false p (4 * j + 2) e)

      -- in the last word not the last
      to_third : i ≤ j + 4 → p < 4 * j + 2 + 17
      to_third before =
          by_test (ltb p (4 * j + 2 + 17)) (λ e. ltb-true p (4 * j + 2 + 17) e)
          (λ e.
          let past = ltb-false p (4 * j + 2 + 17) e in
          let here : i ≡ j + 4 = omega arith in
          let last : r ≡ 3 = omega arith in
          let alike = last_word (omega arith) (omega arith) in
          absurd (other (rw (last, here, div-one (x (j + 4)), div-one (y (j + 4))) alike)))

    differing : Differing b q (4 * j + 2) 17
    differing p in_b in-q differs =
        let i = p / 4 in
        let r = p % 4 in
        let place : 4 * i + r ≡ p = omega arith in
        let reach = firm_bit ThreeOfSix firm_three_of_six s t at b q hs ht (at + 6 * j + 4) w within p in_b in-q
        differs in
        let other : x i / 2 ^ (3 - r) % 2 ≡ y i / 2 ^ (3 - r) % 2 → ⊥ =
        λ same.
        differs (ap (chip_at q) (sym place) ∙ bits_q i r (omega arith) ∙ sym same ∙ sym (bits_b i r (omega arith))
        ∙ ap (chip_at b) place) in (
          from_second p i r (omega arith) place in_b in-q other (omega (arith, reach.0)),
          to_third p i r (omega arith) place in_b in-q other (omega (arith, reach.1)),
        )

-- ---- the law

-- where they do not begin with the last two chips of a word
four_words :
    {w : ℕ} → w ≤ 22 → (s t : List ℕ) (at : ℕ) (b q : List ℕ) → Holds (code_of ThreeOfSix) s at b
    → Holds (code_of ThreeOfSix) t at q → (from : ℕ) → FlippedIn s t from w → ((from - at) % 6 ≡ 4 → ⊥)
    → Differing b q (4 * ((from - at + 1) / 6)) 16
four_words {w} le s t at b q hs ht from within other p in_b in-q differs =
    let reach = firm_bit ThreeOfSix firm_three_of_six s t at b q hs ht from w within p in_b in-q differs in
    (omega (arith, reach.0), omega (arith, reach.1, other))

pub narrows_three_of_six : {w : ℕ} → w ≤ 22 → Narrows (code_of ThreeOfSix) w
narrows_three_of_six {w} le s t at b q hs ht from within =
    let j = (from - at) / 6 in
    by_test (eqb ((from - at) % 6) 4)
    (λ e.
    let four = eqb-true ((from - at) % 6) 4 e in
    let begins : from ≡ at + 6 * j + 4 = omega arith in
    let there = rw begins at within in
    inr (4 * j + 2, (differing s t at b q hs ht w j le there, together s t at b q hs ht w j le there)))
    (λ e. inl (_, four_words le s t at b q hs ht from within (eqb-false ((from - at) % 6) 4 e)))
