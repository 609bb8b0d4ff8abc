-- Three-of-six read a byte at a time: its two words are looked up in a table of 64 (`line::codes::half_of`).
--     half_of v          what is listed for a three-of-six word that stands for v: 16 for no code word
--     listed_for y       what is listed for the word y
--     row_of i           this for the eight words from 8 * i on, as one number: two hexadecimal digits each
--     Halves n t         t is a table of 64 and lists this for each of the first n words
--     row_of_listed             Table 10 in rows of eight, each one number: what is cut out of a row for a word is what
--                              is listed for it, by computing all 64
--     Halves-none, Halves-step    a table of what is listed, filled from the front, entry after entry
--     half_of_is, half_of_none   what a number listed says of its word
--     listed_some, listed_none   and the other way round
--     half_at_first, half_at_second    the two words of the byte, cut out of the 32 chips from its first byte on
--     shifted_first, shifted_second    they stand at the same places, where the code shifts up
--     byte_read_first, byte_read_second    the byte's answer where the first or the second word is no code word
--     byte_read_both            and where both are
use mathlib.Core.Bool.{Bool, true, false}
use mathlib.Core.Path.{◌≡◌, refl, ap, sym, ◌∙◌}
use mathlib.Core.List.{List}
use Prim.Native.Nat.{ℕ, zero, suc, ◌+◌, ◌*◌, ◌-◌, ◌/◌, ◌%◌, ◌^◌, ◌<◌, ◌≤◌}
use native.Mathlib.Nat.{not-suc-le-zero}
use native.Mathlib.Omega.{arith}
use borrow.Author.Tests.{eqb-true, eqb-false}
use lib.Dec.{eqb}
use lib.ListN.{length, get_or, set, length-set}
use lib.Seq.{get_or-set_same, get_or-set_other}
use lib.Pow.{shl-shr, shr-shr}
use Rattle.std.proofs.Math.Pow.{shl_exact}
use Rattle.std.specs.Prelude.{Option, Some, None, unwrap_or, Ok, Err}
use Rattle.chips.proofs.WindowLaws.{word_at_lt, word_at_window}
use Rattle.chips.specs.Chips.{word_at}
use Rattle.ground.proofs.TableLaws.{get_or_values}
use Rattle.line.proofs.CodeLaws.{lawful, word_value_is}
use Rattle.line.proofs.JoiningLaws.{Joining, joining_start, joining_step, joining_bad, joining_end}
use Rattle.line.specs.Codes.{LineCode, code_of, word_value, number_for}
use Rattle.line.specs.Decoding.{value_at}
use Rattle.line.specs.Inner.{byte_read}
use Rattle.line.specs.declared.codes.Code.TheVariants.{ThreeOfSix}

abbrev κ : LineCode
κ = code_of ThreeOfSix

abbrev pub half_of : Option ℕ → ℕ
half_of v = unwrap_or v 16

abbrev pub listed_for : ℕ → ℕ
listed_for y = half_of (word_value κ y)

abbrev listed_up : ℕ → ℕ → ℕ
listed_up y zero = 0
listed_up y (suc n) = listed_up y n * 256 + listed_for (y + n)

abbrev pub row_of : ℕ → ℕ
row_of i = listed_up (8 * i) 8

pub record Halves (n : ℕ) (t : List ℕ) : Type 0 where
  pub size : length t ≡ 64
  pub entry : (y : ℕ) → y < n → get_or t y 0 ≡ listed_for y

-- what the source cuts out of a row for the word y
abbrev cut_out : ℕ → ℕ
cut_out y = row_of (y / 8) / 2 ^ (56 - 8 * (y % 8)) % 256

pub row_of_listed : (y : ℕ) → y < 64 → cut_out y ≡ listed_for y
unfolding number_for
row_of_listed y h = sym (get_or_values cut_out 64 y 0 h) ∙ get_or_values listed_for 64 y 0 h

pub Halves-none : {t : List ℕ} → length t ≡ 64 → Halves 0 t
Halves-none size = record { size = size; entry = λ y h. absurd (not-suc-le-zero h) }

-- an entry of the table with one more: a former one, or the new one
Halves-set : {n : ℕ} {t : List ℕ} {x : ℕ} → Halves n t → n < 64 → x ≡ listed_for n → (y : ℕ) → y ≤ n
    → (new : Bool) → eqb y n ≡ new → get_or (set t n x) y 0 ≡ listed_for y
Halves-set {n} {t} {x} w h is y l true e = rw (eqb-true y n e, get_or-set_same t n x 0 (omega (arith, w.size))) is
Halves-set {n} {t} {x} w h is y l false e =
    get_or-set_other t n y x 0 (eqb-false y n e) ∙ w.entry y (omega (arith, eqb-false y n e))

pub Halves-step : {n : ℕ} {t : List ℕ} {x : ℕ} → Halves n t → n < 64 → x ≡ listed_for n → Halves (n + 1) (set t n x)
Halves-step {n} {t} {x} w h is =
    record {
      size = length-set t n x ∙ w.size;
      entry = λ y l. Halves-set w h is y (omega arith) (eqb y n) refl;
    }

pub half_of_is : (y : ℕ) {x : ℕ} → x ≡ half_of (word_value κ y) → x < 16 → word_value κ y ≡ Some x
half_of_is y {x} e h = by (word_value κ y) e where
  by : (v : Option ℕ) → x ≡ half_of v → v ≡ Some x
  by (Some z) e = ap Some (sym e)
  by None e = absurd (omega arith)

pub half_of_none : (y : ℕ) {x : ℕ} → x ≡ half_of (word_value κ y) → 15 < x → word_value κ y ≡ None
half_of_none y {x} e h = by (word_value κ y) refl e where
  by : (v : Option ℕ) → word_value κ y ≡ v → x ≡ half_of v → v ≡ None
  by (Some z) found e = absurd (omega (arith, (word_value_is κ y z found).0))
  by None found e = refl

pub listed_some : (y : ℕ) {h : ℕ} → word_value κ y ≡ Some h → (h ≡ listed_for y) × (h ≤ 15)
listed_some y e = (sym (ap half_of e), omega (arith, word_value_is κ y _ e))

pub listed_none : (y : ℕ) → word_value κ y ≡ None → 15 < listed_for y
listed_none y e = rw e (omega arith)

-- the 32 chips from the byte of chip `at` on, shifted down until the byte's last chip is the lowest
abbrev half_at : List ℕ → ℕ → ℕ
half_at s at = word_at s (8 * (at / 8)) 32 / 2 ^ (20 - at % 8)

pub half_at_first : (s : List ℕ) (at : ℕ) → half_at s at / 64 % 64 ≡ word_at s (at + 0 * 6) 6
half_at_first s at =
    let rest : 20 - at % 8 + 6 ≡ 32 - at % 8 - 6 = omega arith in
    let place : 8 * (at / 8) + at % 8 ≡ at + 0 * 6 = omega arith in
    ap (λ (n : ℕ). n % 64) (shr-shr (word_at s (8 * (at / 8)) 32) (20 - at % 8) 6)
    ∙ (ap (λ (n : ℕ). word_at s (8 * (at / 8)) 32 / 2 ^ n % 2 ^ 6) rest
    ∙ (word_at_window s (at / 8) 32 (at % 8) 6 (omega arith) ∙ ap (λ (n : ℕ). word_at s n 6) place))

pub half_at_second : (s : List ℕ) (at : ℕ) → half_at s at % 64 ≡ word_at s (at + 1 * 6) 6
half_at_second s at =
    let rest : 20 - at % 8 ≡ 32 - (at % 8 + 6) - 6 = omega arith in
    let place : 8 * (at / 8) + (at % 8 + 6) ≡ at + 1 * 6 = omega arith in
    ap (λ (n : ℕ). word_at s (8 * (at / 8)) 32 / 2 ^ n % 2 ^ 6) rest
    ∙ (word_at_window s (at / 8) 32 (at % 8 + 6) 6 (omega arith) ∙ ap (λ (n : ℕ). word_at s n 6) place)

-- 32 chips shifted up by less than a byte lose none, and what is cut out behind that is what is cut out of them
shifted_up : (x k n : ℕ) → x < 2 ^ 32 → k ≤ 7 → k ≤ n → x * 2 ^ k % 2 ^ 64 / 2 ^ n ≡ x / 2 ^ (n - k)
shifted_up x k n h few e =
    ap (λ (y : ℕ). y / 2 ^ n) (shl_exact 32 k 64 h (omega arith))
    ∙ (ap (λ (m : ℕ). x * 2 ^ k / 2 ^ m) (parts e) ∙ sym (shr-shr (x * 2 ^ k) k (n - k))
    ∙ ap (λ (y : ℕ). y / 2 ^ (n - k)) (shl-shr x k))
  where
    parts : k ≤ n → n ≡ k + (n - k)
    parts e = omega arith

module _ (s : List ℕ) (at : ℕ) {x : ℕ} (half : x ≡ word_at s (8 * (at / 8)) 32) where
  few_chips : x < 2 ^ 32
  few_chips = rw half (word_at_lt s (8 * (at / 8)) 32)

  pub shifted_first : x * 2 ^ (at % 8) % 2 ^ 64 / 2 ^ 26 % 64 ≡ x / 2 ^ (20 - at % 8) / 64 % 64
  shifted_first =
      let rest : 26 - at % 8 ≡ 20 - at % 8 + 6 = omega arith in
      ap (λ (y : ℕ). y % 64)
      (shifted_up x (at % 8) 26 few_chips (omega arith) (omega arith) ∙ ap (λ (n : ℕ). x / 2 ^ n) rest
      ∙ sym (shr-shr x (20 - at % 8) 6))

  pub shifted_second : x * 2 ^ (at % 8) % 2 ^ 64 / 2 ^ 20 % 64 ≡ x / 2 ^ (20 - at % 8) % 64
  shifted_second = ap (λ (y : ℕ). y % 64) (shifted_up x (at % 8) 20 few_chips (omega arith) (omega arith))

-- x is the 32 chips from the byte of chip `at` on, and `high` and `low` are what is listed for the byte's two words
module _ (s : List ℕ) (at : ℕ) {x : ℕ} (half : x ≡ word_at s (8 * (at / 8)) 32) where
  module _ {high : ℕ} (first : high ≡ listed_for (x / 2 ^ (20 - at % 8) / 64 % 64)) where
    high_is : high ≡ half_of (value_at κ s at 0)
    high_is = first ∙ ap (λ (y : ℕ). half_of (word_value κ y)) (rw half (half_at_first s at))

    before : Joining κ s at 4 6 2 12 0 0
    before = joining_start (record { law = lawful ThreeOfSix; b-eq = refl; w-eq = refl; m-eq = refl }) refl

    after_high : high ≤ 15 → Joining κ s at 4 6 2 12 (0 * 2 ^ 4 + high) 1
    after_high h = joining_step before (omega arith) (half_of_is (word_at s (at + 0 * 6) 6) high_is (omega arith))

    pub byte_read_first : 15 < high → byte_read κ s at ≡ Err 0
    byte_read_first h = joining_bad before (omega arith) (half_of_none (word_at s (at + 0 * 6) 6) high_is h)

    module _ (h : high ≤ 15) {low : ℕ} (second : low ≡ listed_for (x / 2 ^ (20 - at % 8) % 64)) where
      low_is : low ≡ half_of (value_at κ s at 1)
      low_is = second ∙ ap (λ (y : ℕ). half_of (word_value κ y)) (rw half (half_at_second s at))

      pub byte_read_second : 15 < low → byte_read κ s at ≡ Err 1
      byte_read_second l =
          joining_bad (after_high h) (omega arith) (half_of_none (word_at s (at + 1 * 6) 6) low_is l)

      pub byte_read_both : low ≤ 15 → byte_read κ s at ≡ Ok (high * 16 + low)
      byte_read_both l =
          let two = joining_step (after_high h) (omega arith)
          (half_of_is (word_at s (at + 1 * 6) 6) low_is (omega arith)) in
          let same : (0 * 2 ^ 4 + high) * 2 ^ 4 + low ≡ high * 16 + low = omega arith in
          joining_end two (omega arith) ∙ ap Ok same
