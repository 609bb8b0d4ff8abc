-- Where two frames in chips differ, told by their code words.
--     Firm κ            a code word is told by all of its chips but the last, and by all but the first
--     firm_of           three-of-six and Manchester are so, by one computed test
--     three_of_six_even, manchester_even    two code words differ in an even number of chips
--     unflipped         a chip that is not inverted is as it was
--     word_reach        so where a word stands for something else, chips of it are inverted at two places
-- Assumes nothing.
use mathlib.Core.Bool.{Bool, true, false, not, ◌&&◌, ◌||◌}
use mathlib.Core.List.{List}
use mathlib.Core.Path.{◌≡◌, refl, sym, ap, ◌∙◌}
use Prim.Native.Nat.{ℕ, suc, ◌+◌, ◌*◌, ◌/◌, ◌%◌, ◌≤◌, ◌<◌, ◌^◌}
use native.Mathlib.Omega.{arith}
use borrow.Author.Tests.{eq-eqb, eqb-true, eqb-false, ltb-true, ltb-false}
use lib.Dec.{eqb, ltb, T, eqb→eq}
use lib.Ieee.Fits.{and_l, and_r}
use lib.ListN.{length}
use lib.Pow.{low}
use Rattle.ground.specs.Apart.{apart}
use Rattle.ground.proofs.CaseLaws.{by_test, zero_not_one}
use Rattle.ground.proofs.TableLaws.{all_below, all_below_at}
use Rattle.chips.specs.Chips.{chip_at, word_at, gather}
use Rattle.chips.specs.Packing.{tabulate}
use Rattle.chips.proofs.GatherLaws.{gather-add, gather-lt, chip_at-lt}
use Rattle.chips.proofs.PackingLaws.{gather_same}
use Rattle.line.specs.declared.codes.Code.TheVariants.{ThreeOfSix, Manchester}
use Rattle.line.specs.Codes.{LineCode, code_of, words_in}
use Rattle.line.proofs.CodeLaws.{Lawful, word_value_is}
use Rattle.line.proofs.TripLaws.{Holds, value_at_holds}
use Rattle.airdamage.specs.ChipDamage.{Flipped, word_chips, EvenlyApart}

pub record Firm (κ : LineCode) (v : ℕ) : Type 0 where
  pub chips : κ.chips ≡ suc v
  pub but_last :
      (x y : ℕ) → x < 2 ^ κ.bits → y < 2 ^ κ.bits → κ.word_of x / 2 ≡ κ.word_of y / 2 → x ≡ y
  pub but_first :
      (x y : ℕ) → x < 2 ^ κ.bits → y < 2 ^ κ.bits → κ.word_of x % 2 ^ v ≡ κ.word_of y % 2 ^ v → x ≡ y

-- two numbers below n are one, or their words differ before the last chip and behind the first
told_apart : (ℕ → ℕ) → ℕ → ℕ → ℕ → Bool
told_apart word m x y = eqb x y || (not (eqb (word x / 2) (word y / 2)) && not (eqb (word x % m) (word y % m)))

all_apart : (ℕ → ℕ) → ℕ → ℕ → Bool
all_apart word m n = all_below (λ x. all_below (told_apart word m x) n) n

not_true : (t : Bool) → t ≡ true → T (not t) → ⊥
not_true true e p = p
not_true false e p = zero_not_one cc

apart_last : (word : ℕ → ℕ) (m x y : ℕ) → T (told_apart word m x y) → word x / 2 ≡ word y / 2 → x ≡ y
unfolding told_apart
apart_last word m x y t same =
    by_test (eqb x y) (λ e. eqb-true x y e)
    (λ e. absurd (not_true (eqb (word x / 2) (word y / 2)) (eq-eqb (word x / 2) (word y / 2) same)
    (and_l (not (eqb (word x / 2) (word y / 2))) _ (rw e at t))))

apart_first : (word : ℕ → ℕ) (m x y : ℕ) → T (told_apart word m x y) → word x % m ≡ word y % m → x ≡ y
unfolding told_apart
apart_first word m x y t same =
    by_test (eqb x y) (λ e. eqb-true x y e)
    (λ e. absurd (not_true (eqb (word x % m) (word y % m)) (eq-eqb (word x % m) (word y % m) same)
    (and_r (not (eqb (word x / 2) (word y / 2))) _ (rw e at t))))

firm_of : (κ : LineCode) (v : ℕ) → κ.chips ≡ suc v → T (all_apart κ.word_of (2 ^ v) (2 ^ κ.bits)) → Firm κ v
unfolding all_apart
firm_of κ v chips all =
    let n = 2 ^ κ.bits in
    let at : (x y : ℕ) → x < n → y < n → T (told_apart κ.word_of (2 ^ v) x y) =
    λ x y hx hy. all_below_at (told_apart κ.word_of (2 ^ v) x) n
    (all_below_at (λ u. all_below (told_apart κ.word_of (2 ^ v) u) n) n all x hx) y hy in
    record {
      chips = chips;
      but_last = λ x y hx hy. apart_last κ.word_of (2 ^ v) x y (at x y hx hy);
      but_first = λ x y hx hy. apart_first κ.word_of (2 ^ v) x y (at x y hx hy);
    }

pub firm_three_of_six : Firm (code_of ThreeOfSix) 5
unfolding all_apart told_apart
firm_three_of_six = firm_of (code_of ThreeOfSix) 5 refl tt

pub firm_manchester : Firm (code_of Manchester) 1
unfolding all_apart told_apart
firm_manchester = firm_of (code_of Manchester) 1 refl tt

-- two numbers below n have words that differ in an even number of chips
evenly : LineCode → ℕ → ℕ → Bool
evenly κ x y = eqb (apart (word_chips κ (κ.word_of x)) (word_chips κ (κ.word_of y)) % 2) 0

evenly_apart :
    (κ : LineCode) → T (all_below (λ x. all_below (evenly κ x) (2 ^ κ.bits)) (2 ^ κ.bits)) → EvenlyApart κ
unfolding evenly
evenly_apart κ all x y hx hy =
    let n = 2 ^ κ.bits in
    eqb→eq _ 0 (all_below_at (evenly κ x) n (all_below_at (λ u. all_below (evenly κ u) n) n all x hx) y hy)

pub three_of_six_even : EvenlyApart (code_of ThreeOfSix)
unfolding evenly tabulate apart
three_of_six_even = evenly_apart (code_of ThreeOfSix) tt

pub manchester_even : EvenlyApart (code_of Manchester)
unfolding evenly tabulate apart
manchester_even = evenly_apart (code_of Manchester) tt

pub unflipped : (s t : List ℕ) (p : ℕ) → (Flipped s t p → ⊥) → chip_at t p ≡ chip_at s p
unflipped s t p same =
    by_test (eqb (chip_at t p) (chip_at s p)) (λ e. eqb-true (chip_at t p) (chip_at s p) e)
    (λ e. absurd (same (eqb-false (chip_at t p) (chip_at s p) e)))

-- a word without its last chip, and without its first
word_front : (s : List ℕ) (a v : ℕ) → word_at s a (suc v) / 2 ≡ word_at s a v
unfolding gather
word_front s a v = omega (arith, chip_at-lt s (a + v))

word_back : (s : List ℕ) (a v : ℕ) → word_at s a (suc v) % 2 ^ v ≡ word_at s (a + 1) v
word_back s a v =
    let one : suc v ≡ 1 + v = omega arith in
    ap (λ (n : ℕ). word_at s a n % 2 ^ v) one ∙ ap (λ (n : ℕ). n % 2 ^ v) (gather-add (chip_at s) a 1 v)
    ∙ low (word_at s a 1) v (gather-lt (chip_at s) (chip_at-lt s) (a + 1) v)

module _
    {κ : LineCode} {v : ℕ} (firm : Firm κ v) (law : Lawful κ) (s t : List ℕ) (at : ℕ) (b q : List ℕ)
    (hs : Holds κ s at b) (ht : Holds κ t at q) where
  module _ (i : ℕ) (in_b : i < words_in κ (length b)) (in-q : i < words_in κ (length q)) where
    abbrev a : ℕ
    a = at + i * κ.chips

    abbrev x : ℕ
    x = word_at b (i * κ.bits) κ.bits

    abbrev y : ℕ
    y = word_at q (i * κ.bits) κ.bits

    word_b : (x < 2 ^ κ.bits) × (κ.word_of x ≡ word_at s a (suc v))
    word_b =
        let w = word_value_is κ (word_at s a κ.chips) x (value_at_holds law s at b hs i in_b) in
        (w.0, w.1 ∙ ap (word_at s a) firm.chips)

    word_q : (y < 2 ^ κ.bits) × (κ.word_of y ≡ word_at t a (suc v))
    word_q =
        let w = word_value_is κ (word_at t a κ.chips) y (value_at_holds law t at q ht i in-q) in
        (w.0, w.1 ∙ ap (word_at t a) firm.chips)

    same_front : word_at t a v ≡ word_at s a v → x ≡ y
    same_front e =
        firm.but_last x y word_b.0 word_q.0
        (ap (λ (n : ℕ). n / 2) word_b.1 ∙ word_front s a v ∙ sym e ∙ sym (word_front t a v)
        ∙ sym (ap (λ (n : ℕ). n / 2) word_q.1))

    same_back : word_at t (a + 1) v ≡ word_at s (a + 1) v → x ≡ y
    same_back e =
        firm.but_first x y word_b.0 word_q.0
        (ap (λ (n : ℕ). n % 2 ^ v) word_b.1 ∙ word_back s a v ∙ sym e ∙ sym (word_back t a v)
        ∙ sym (ap (λ (n : ℕ). n % 2 ^ v) word_q.1))

    pub word_reach :
        (from w : ℕ) → ((p : ℕ) → Flipped s t p → (from ≤ p) × (p < from + w)) → (x ≡ y → ⊥)
        → (from < a + v) × (a + 1 < from + w)
    word_reach from w within differs = (
      by_test (ltb from (a + v)) (λ e. ltb-true from (a + v) e)
          (λ e. absurd (differs (same_front (unflipped_word a (λ j h one.
          omega (arith, (within (a + j) one).0, ltb-false from (a + v) e)))))),
      by_test (ltb (a + 1) (from + w)) (λ e. ltb-true (a + 1) (from + w) e)
          (λ e. absurd (differs (same_back (unflipped_word (a + 1) (λ j h one.
          omega (arith, (within (a + 1 + j) one).1, ltb-false (a + 1) (from + w) e)))))),
    )
      where
        unflipped_word :
            (place : ℕ) → ((j : ℕ) → j < v → Flipped s t (place + j) → ⊥) → word_at t place v ≡ word_at s place v
        unflipped_word place same =
            gather_same (chip_at t) (chip_at s) place place v (λ j h. unflipped s t (place + j) (same j h))
