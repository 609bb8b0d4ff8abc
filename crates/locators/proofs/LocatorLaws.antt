-- What a polynomial tells of the bytes of a word that are not 0, if it combines the word's values to 0. Such a
-- polynomial need not be the least one, nor be a product of factors x + locator.
--     located      at most 16 bytes are not 0: it is 0 at the locator of each
--     alone_value  0 at the locators of all but one: the combined values are that byte's alone
-- Assumes nothing.
use Rattle.std.proofs.Common.{◌≡◌, refl, sym, ap, ◌∙◌, List, ◌⊎◌, inl, inr, ⊎_elim, ℕ, zero, suc, ◌+◌, ◌-◌, ◌*◌, ◌<◌}
use Rattle.std.proofs.Common.{◌≤◌, arith, length, get_or}
use lib.ListN.{get_or-replicate}
use Rattle.ground.specs.Bytes.{Bytes}
use Rattle.field.specs.Field.{mul}
use Rattle.field.specs.Polynomials.{value_at}
use Rattle.field.proofs.FieldLaws.{mul-zero_l, mul-zero_r}
use Rattle.field.proofs.PrimitiveLaws.{mul_cancel}
use Rattle.field.proofs.StepLaws.{step_to}
use Rattle.field.proofs.PolynomialLaws.{eval_lt}
use Rattle.field.proofs.DampLaws.{weight, weight_zeros}
use Rattle.field.proofs.DistanceLaws.{vanish}
use Rattle.locators.specs.Combinations.{combined}
use Rattle.locators.proofs.OverLaws.{over_alone, value_over}
use Rattle.locators.proofs.CombineLaws.{Values, share, combined_over, weighed, length-weighed, bytes-weighed, weighed_at, weighed_weight, over-weighed}

-- one of two factors is 0
either-zero : (x y : ℕ) → x < 256 → y < 256 → mul x y ≡ 0 → (x ≡ 0) ⊎ (y ≡ 0)
either-zero x zero hx hy z = inr refl
either-zero x (suc y) hx hy z = inl (mul_cancel x (suc y) hx hy (omega arith) z)

module _ (m : ℕ) (e s : List ℕ) (be : Bytes e) (values : Values m e s) (v : List ℕ) (bv : Bytes v) where
  -- the polynomial at the locator of a place
  abbrev at : ℕ → ℕ
  at p = value_at (step_to p) v

  at_lt : (p : ℕ) → at p < 256
  at_lt p = eval_lt (step_to p) 0 v (omega arith) bv

  weighed_value : (i : ℕ) → i + length v ≤ 32 → value_at (step_to (m + i)) (weighed at e) ≡ combined s v i
  weighed_value i h =
      value_over (m + i) (weighed at e) (bytes-weighed at e be) ∙ over-weighed at _ e be at_lt
      ∙ sym (combined_over m e s be values v i h bv)

  weighed_none : length e ≤ 255 → weight e ≤ 16 → length v ≤ 17 → ((i : ℕ) → i < 16 → combined s v i ≡ 0)
      → weight (weighed at e) ≡ 0
  weighed_none most few short kills =
      vanish 255 16 m (weighed at e) (omega (arith, length-weighed at e)) (omega arith) (bytes-weighed at e be)
      (omega (arith, weighed_weight at e)) (λ k h. weighed_value k (omega arith) ∙ kills k h)

  product-zero : weight (weighed at e) ≡ 0 → (i : ℕ) → i < length e → mul (get_or e i 0) (at (length e - suc i)) ≡ 0
  product-zero none i here =
      let u = weighed at e in
      sym (weighed_at at e i here) ∙ ap (λ (l : List ℕ). get_or l i 0) (weight_zeros u none)
      ∙ get_or-replicate (length u) i 0 0 (omega (arith, length-weighed at e))

  pub located : length e ≤ 255 → weight e ≤ 16 → length v ≤ 17 → ((i : ℕ) → i < 16 → combined s v i ≡ 0)
      → (i : ℕ) → i < length e → (get_or e i 0 ≡ 0) ⊎ (value_at (step_to (length e - suc i)) v ≡ 0)
  located most few short kills i here =
      either-zero (get_or e i 0) (at (length e - suc i)) (be i) (at_lt (length e - suc i))
      (product-zero (weighed_none most few short kills) i here)

  -- a byte of 0, or a place where the polynomial is 0, counts nothing
  counts_none : (i : ℕ) → (get_or e i 0 ≡ 0) ⊎ (at (length e - suc i) ≡ 0)
      → mul (get_or e i 0) (share m e s be values v 0 (length e - suc i)) ≡ 0
  counts_none i =
      ⊎_elim (λ z. ap (λ (x : ℕ). mul x (share m e s be values v 0 (length e - suc i))) z ∙ mul-zero_l _)
      (λ z. ap (λ (x : ℕ). mul (get_or e i 0) (mul x (step_to ((m + 0) * (length e - suc i))))) z
      ∙ ap (mul (get_or e i 0)) (mul-zero_l _) ∙ mul-zero_r (get_or e i 0))

  pub alone_value : (j : ℕ) → j < length e → length v ≤ 32
      → ((i : ℕ) → i < length e → (i ≡ j → ⊥) → (get_or e i 0 ≡ 0) ⊎ (value_at (step_to (length e - suc i)) v ≡ 0))
      → let p = length e - suc j in
      combined s v 0 ≡ mul (get_or e j 0) (mul (value_at (step_to p) v) (step_to ((m + 0) * p)))
  alone_value j here short others =
      combined_over m e s be values v 0 (omega arith) bv
      ∙ over_alone (share m e s be values v 0) e j here (λ i h no. counts_none i (others i h no))
