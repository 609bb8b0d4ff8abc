-- The tables of powers and logarithms.
--     stepwise, listed, empty   what antt computes over all entries: each power is alpha times the one before it, each
--                               logarithm stands at its power, and zeros follow the powers
--     tables_right              tables that pass are right
--     log_is, log-le            a logarithm, as the table has it
--     product, power_product, quotient_right    what stands where two logarithms lead
-- Assumes nothing.
use Rattle.std.proofs.Common.{Bool, List, ◌≡◌, refl, sym, ap, ap₂, ◌∙◌, ℕ, zero, suc, ◌+◌, ◌-◌, ◌%◌, ◌≤◌, ◌<◌, arith}
use Rattle.std.proofs.Common.{ltb-true, ltb-false, T, eqb, eqb→eq, ltb, length, get_or}
use lib.ListN.{get_or-eq_default}
use Rattle.ground.proofs.CaseLaws.{by_test}
use Rattle.ground.proofs.TableLaws.{all_below, all_below_at}
use Rattle.field.specs.Field.{up, mul, alpha_to}
use Rattle.field.proofs.FieldLaws.{mul-zero_l, mul-zero_r, mul_one}
use Rattle.field.proofs.PowerLaws.{alpha_to-add, alpha_to-mod}
use Rattle.field.proofs.PrimitiveLaws.{log, log-lt, alpha_to_log}
use Rattle.products.specs.Tables.{TablesOk}

unfoldable pub stepwise : List ℕ → ℕ → Bool
stepwise powers k = eqb (get_or powers (suc k) 0) (up (get_or powers k 0))

unfoldable pub listed : List ℕ → List ℕ → ℕ → Bool
listed powers logs k = eqb (get_or logs (get_or powers k 0) 0) k

unfoldable pub empty : List ℕ → ℕ → Bool
empty powers k = eqb (get_or powers (511 + k) 0) 0

module _ (powers logs : List ℕ) (size : length powers ≡ 1024) (logs-size : length logs ≡ 256)
    (one : get_or powers 0 0 ≡ 1) (last : get_or logs 0 0 ≡ 511) (step : T (all_below (stepwise powers) 510))
    (list : T (all_below (listed powers logs) 255)) (zeros : T (all_below (empty powers) 513)) where
  power_at : (k : ℕ) → k < 511 → get_or powers k 0 ≡ alpha_to k
  unfolding alpha_to stepwise
  power_at zero h = one
  power_at (suc k) h =
      eqb→eq (get_or powers (suc k) 0) (up (get_or powers k 0))
      (all_below_at (stepwise powers) 510 step k (omega arith))
      ∙ ap up (power_at k (omega arith))

  zero_at : (k : ℕ) → 511 ≤ k → k < 1024 → get_or powers k 0 ≡ 0
  unfolding empty
  zero_at k h low =
      let e : 511 + (k - 511) ≡ k = omega arith in
      ap (λ (j : ℕ). get_or powers j 0) (sym e)
      ∙ eqb→eq (get_or powers (511 + (k - 511)) 0) 0 (all_below_at (empty powers) 513 zeros (k - 511) (omega arith))

  none_at : (k : ℕ) → 511 ≤ k → get_or powers k 0 ≡ 0
  none_at k h =
      by_test (ltb k 1024) (λ t. zero_at k h (ltb-true k 1024 t))
      (λ t. get_or-eq_default powers 0 (omega (arith, ltb-false k 1024 t)))

  log_at : (k : ℕ) → k < 255 → get_or logs (alpha_to k) 0 ≡ k
  unfolding listed
  log_at k h =
      ap (λ (a : ℕ). get_or logs a 0) (sym (power_at k (omega arith)))
      ∙ eqb→eq (get_or logs (get_or powers k 0) 0) k (all_below_at (listed powers logs) 255 list k h)

  pub tables_right : TablesOk powers logs
  tables_right =
      record { count = size; logs_count = logs-size; power = power_at; none = none_at; log = log_at; log_zero = last }

-- alpha^255 is alpha^0
times_last : (x : ℕ) → mul x (alpha_to (255 % 255)) ≡ x
unfolding alpha_to
times_last x = mul_one x

module _ {powers logs : List ℕ} (ok : TablesOk powers logs) where
  pub log_is : (a : ℕ) → 0 < a → a < 256 → get_or logs a 0 ≡ log a
  log_is a pos h = ap (λ (b : ℕ). get_or logs b 0) (sym (alpha_to_log a pos h)) ∙ ok.log (log a) (log-lt a pos h)

  pub log_small : (a : ℕ) → 0 < a → a < 256 → get_or logs a 0 < 255
  log_small a pos h = omega (arith, log_is a pos h, log-lt a pos h)

  pub log-le : (a : ℕ) → a < 256 → get_or logs a 0 ≤ 511
  log-le zero h = omega (arith, ok.log_zero)
  log-le (suc a) h = omega (arith, log_small (suc a) (omega arith) h)

  -- where a logarithm and a power lead to
  reached : (a k n : ℕ) → 0 < a → a < 256 → n < 511 → n ≡ get_or logs a 0 + k → get_or powers n 0 ≡ mul a (alpha_to k)
  reached a k n pos h low e =
      ok.power n low ∙ ap alpha_to (e ∙ ap (λ (l : ℕ). l + k) (log_is a pos h)) ∙ sym (alpha_to-add (log a) k)
      ∙ ap (λ (b : ℕ). mul b (alpha_to k)) (alpha_to_log a pos h)

  pub power_product : (a k : ℕ) → a < 256 → k < 255 → get_or powers (get_or logs a 0 + k) 0 ≡ mul a (alpha_to k)
  power_product zero k h low =
      ok.none (get_or logs 0 0 + k) (omega (arith, ok.log_zero)) ∙ sym (mul-zero_l (alpha_to k))
  power_product (suc a) k h low =
      let pos : 0 < suc a = omega arith in
      reached (suc a) k (get_or logs (suc a) 0 + k) pos h (omega (arith, log_small (suc a) pos h)) refl

  pub product : (a b : ℕ) → a < 256 → b < 256 → get_or powers (get_or logs a 0 + get_or logs b 0) 0 ≡ mul a b
  product a zero ha hb =
      ok.none (get_or logs a 0 + get_or logs 0 0) (omega (arith, ok.log_zero)) ∙ sym (mul-zero_r a)
  product a (suc b) ha hb =
      let pos : 0 < suc b = omega arith in
      power_product a (get_or logs (suc b) 0) ha (log_small (suc b) pos hb)
      ∙ ap (mul a) (ap alpha_to (log_is (suc b) pos hb) ∙ alpha_to_log (suc b) pos hb)

  -- the exponents of a quotient and of what is divided by: once around and that of what is divided
  exponent_back : (a b : ℕ) → 0 < a → a < 256 → 0 < b → b < 256
      → get_or logs a 0 + 255 - get_or logs b 0 + log b ≡ log a + 255
  exponent_back a b some ha pos hb = omega (arith, log_is a some ha, log_is b pos hb, log-lt b pos hb)

  quotient_some : (a b : ℕ) → 0 < a → a < 256 → 0 < b → b < 256
      → mul (get_or powers (get_or logs a 0 + 255 - get_or logs b 0) 0) b ≡ a
  quotient_some a b some ha pos hb =
      let k = get_or logs a 0 + 255 - get_or logs b 0 in
      let back = exponent_back a b some ha pos hb in
      ap₂ mul (ok.power k (omega (arith, back, log-lt a some ha))) (sym (alpha_to_log b pos hb))
      ∙ alpha_to-add k (log b) ∙ ap alpha_to back ∙ sym (alpha_to-add (log a) 255)
      ∙ ap₂ mul (alpha_to_log a some ha) (alpha_to-mod 255) ∙ times_last a

  pub quotient_right : (a b : ℕ) → a < 256 → 0 < b → b < 256
      → mul (get_or powers (get_or logs a 0 + 255 - get_or logs b 0) 0) b ≡ a
  quotient_right zero b ha pos hb =
      ap (λ (x : ℕ). mul x b)
      (ok.none (get_or logs 0 0 + 255 - get_or logs b 0) (omega (arith, ok.log_zero, log_small b pos hb)))
      ∙ mul-zero_l b
  quotient_right (suc a) b ha pos hb = quotient_some (suc a) b (omega arith) ha pos hb
