-- One column of a polynomial cleared (specs/Inner).
--     length_added, added_at    a polynomial with a multiple of another added
--     combined_skip, combined_part   the zeros in front are left out
--     poly_of          a polynomial, from what makes it one
--     next_column      one column more is clear, with nothing there
--     cleared          or by a kept polynomial
-- Assumes nothing.
use Rattle.std.proofs.Common.{List, [], ◌∷◌, ◌≡◌, refl, sym, ap, ap₂, subst, ◌∙◌, ℕ, zero, suc, ◌-◌, ◌+◌, ◌≤◌, ◌<◌}
use Rattle.std.proofs.Common.{arith, below_more, bit_xor, length, get_or, take, drop, length-drop, take_all}
use lib.Bits.{xor_self, xor_zero_r}
use Rattle.ground.specs.Bytes.{Bytes}
use Rattle.ground.specs.Sums.{xors}
use Rattle.ground.proofs.SumLaws.{length-xors, bytes-xors, get_or-xors}
use Rattle.field.specs.Field.{mul}
use Rattle.field.specs.Polynomials.{scaled}
use Rattle.field.proofs.FieldLaws.{mul-zero_l, mul-zero_r}
use Rattle.field.proofs.PolynomialLaws.{length_scaled, bytes_scaled, get_or_scaled}
use Rattle.locators.specs.Combinations.{combined}
use Rattle.locators.proofs.CombineLaws.{combined-xors, combined_scaled}
use Rattle.locating.specs.Inner.{Slot, Cleared, Reducing}
use Rattle.locating.specs.Locates.{Poly}

module _ (v p : List ℕ) (f : ℕ) (same : length p ≡ length v) where
  alike : length v ≡ length (scaled f p)
  alike = sym same ∙ sym (length_scaled f p)

  pub length_added : length (xors v (scaled f p)) ≡ length v
  length_added = length-xors v (scaled f p) alike

  pub added_at : (t : ℕ) {x y : ℕ} → x ≡ get_or v t 0 → y ≡ mul f (get_or p t 0)
      → bit_xor x y ≡ get_or (xors v (scaled f p)) t 0
  added_at t ex ey = ap₂ bit_xor ex (ey ∙ sym (get_or_scaled f p t)) ∙ sym (get_or-xors v (scaled f p) t alike)

pub combined_skip : (s : List ℕ) (n : ℕ) (v : List ℕ) (i : ℕ) → ((t : ℕ) → t < n → get_or v t 0 ≡ 0)
    → combined s (drop n v) i ≡ combined s v i
unfolding combined
combined_skip s zero v i z = refl
combined_skip s (suc n) [] i z = refl
combined_skip s (suc n) (x ∷ v) i z =
    combined_skip s n v i (λ t h. z (suc t) (omega arith))
    ∙ sym (ap (λ (y : ℕ). bit_xor (mul y (get_or s (i + length v) 0)) (combined s v i)) (z 0 (omega arith))
    ∙ ap (λ (y : ℕ). bit_xor y (combined s v i)) (mul-zero_l (get_or s (i + length v) 0)))

pub combined_part : {low : ℕ} {v : List ℕ} (s : List ℕ) (i : ℕ) → Poly low v
    → combined s (take (17 - low) (drop low v)) i ≡ combined s v i
combined_part {low} {v} s i p =
    ap (λ (l : List ℕ). combined s l i) (take_all (17 - low) (drop low v) (omega (arith, length-drop low v, p.count)))
    ∙ combined_skip s low v i p.zeros

-- a polynomial, from what makes it one
pub poly_of : {low : ℕ} {v : List ℕ} → length v ≡ 17 → Bytes v → low ≤ 16 → ((t : ℕ) → t < low → get_or v t 0 ≡ 0)
    → get_or v low 0 ≡ 1 → Poly low v
poly_of count bytes within zeros lead =
    record { count = count; bytes = bytes; within = within; zeros = zeros; lead = lead }

-- with nothing left in a column, the next one is the first that may have something
pub next_column : {s v : List ℕ} {low i : ℕ} → Reducing s low v i → combined s v i ≡ 0 → Reducing s low v (i + 1)
next_column {s} {v} {low} {i} at z =
    record { poly = at.poly; before = below_more (λ k. combined s v k ≡ 0) i at.before z }

module _ {s v p u : List ℕ} {low i lead sum : ℕ} (at : Reducing s low v i) (kept : Slot s i low lead p)
    (clear : Cleared v p lead sum u) (here : combined s v i ≡ sum) where
  abbrev f : ℕ
  f = clear.factor

  same : length p ≡ length v
  same = kept.count ∙ sym at.poly.count

  element : (t : ℕ) → get_or p t 0 ≡ 0 → get_or u t 0 ≡ get_or v t 0
  element t z =
      ap (λ (l : List ℕ). get_or l t 0) clear.is ∙ sym (added_at v p f same t refl (sym (ap (mul f) z ∙ mul-zero_r f)))
      ∙ xor_zero_r (get_or v t 0)

  column : (k : ℕ) → combined s u k ≡ bit_xor (combined s v k) (mul f (combined s p k))
  column k =
      ap (λ (l : List ℕ). combined s l k) clear.is ∙ combined-xors s v (scaled f p) k (alike v p f same)
      ∙ ap (bit_xor (combined s v k)) (combined_scaled s f p k clear.small kept.bytes)

  count_still : length u ≡ 17
  count_still = ap length clear.is ∙ length_added v p f same ∙ at.poly.count

  bytes_still : Bytes u
  bytes_still =
      subst Bytes (sym clear.is) (bytes-xors v (scaled f p) at.poly.bytes (bytes_scaled f p clear.small))

  poly : Poly low u
  poly =
      poly_of count_still bytes_still at.poly.within
      (λ t h. element t (kept.zeros t (omega arith)) ∙ at.poly.zeros t h)
      (element low (kept.zeros low (omega arith)) ∙ at.poly.lead)

  before_clear : (k : ℕ) → k < i → combined s u k ≡ 0
  before_clear k h =
      column k ∙ ap₂ (λ (a b : ℕ). bit_xor a (mul f b)) (at.before k h) (kept.before k h) ∙ mul-zero_r f

  column_clear : combined s u i ≡ 0
  column_clear = column i ∙ ap₂ bit_xor here (ap (mul f) kept.here ∙ clear.makes) ∙ xor_self sum

  pub cleared : Reducing s low u (i + 1)
  cleared = next_column (record { poly = poly; before = before_clear }) column_clear
