-- Which byte is wrong, from the values at the first two roots (specs/Inner `Locates`). Let j be the logarithm of the
-- error, and p bytes stand behind it: the logarithms of the values are j + 1232 p and j + 1243 p, up to multiples of
-- 255. So their difference is 11 p, which times 116 is p again, and the first less 212 p is j.
--     locates_none      where the first value is 0
--     locates_outside   where the place would lie before the word
--     locates_there     where it lies in it
-- Assumes nothing.
use mathlib.Core.List.{List}
use mathlib.Core.Path.{◌≡◌, refl, sym, ap, ap₂, ◌∙◌}
use Prim.Native.Nat.{ℕ, ◌+◌, ◌-◌, ◌*◌, ◌/◌, ◌%◌, ◌≤◌, ◌<◌}
use native.Mathlib.Nat.{add-mul-mod_self_left, mod-eq_of_lt}
use native.Mathlib.Omega.{arith}
use lib.ListN.{get_or}
use Rattle.std.specs.Prelude.{Some, None}
use Rattle.field.specs.Field.{mul, alpha_to}
use Rattle.field.proofs.PowerLaws.{alpha_to-lt, alpha_to-add, alpha_to-mod, power_cancel}
use Rattle.field.proofs.PrimitiveLaws.{log, log-lt, alpha_to_log}
use Rattle.products.specs.Tables.{TablesOk}
use Rattle.mending.specs.Inner.{Locates}

-- ---- the numbers

-- numbers that differ by a multiple of 255 have one remainder
same-mod : (a b u v : ℕ) → a + 255 * u ≡ b + 255 * v → a % 255 ≡ b % 255
same-mod a b u v e =
    sym (add-mul-mod_self_left a 255 u) ∙ ap (λ (n : ℕ). n % 255) e ∙ add-mul-mod_self_left b 255 v

place_back : (j p : ℕ) → p < 255 → ((j + 1243 * p) % 255 + 255 - (j + 1232 * p) % 255) * 116 % 255 ≡ p
place_back j p h =
    let q = (j + 1243 * p) / 255 in
    let r = (j + 1232 * p) / 255 in
    same-mod _ p (116 * q) (5 * p + 116 + 116 * r) (omega arith) ∙ mod-eq_of_lt h

error_back : (j p : ℕ) → j < 255 → ((j + 1232 * p) % 255 + 255 - 212 * p % 255) % 255 ≡ j
error_back j p h = omega arith

-- ---- the wrong byte

-- nothing but 0 has the value 0
value_positive : (e m : ℕ) → 0 < e → e < 256 → mul e (alpha_to m) ≡ 0 → ⊥
value_positive e m pos h z = let gone = power_cancel e m h z in omega arith

module _ {powers logs : List ℕ} (ok : TablesOk powers logs) where
  -- the logarithm of a value, as the table has it
  log_value : (e m : ℕ) {x : ℕ} → 0 < e → e < 256 → x ≡ mul e (alpha_to m) → get_or logs x 0 ≡ (log e + m) % 255
  log_value e m {x} pos h is =
      let power : x ≡ alpha_to ((log e + m) % 255)
      = is ∙ ap (λ (a : ℕ). mul a (alpha_to m)) (sym (alpha_to_log e pos h)) ∙ alpha_to-add (log e) m
      ∙ alpha_to-mod (log e + m) in
      ap (λ (a : ℕ). get_or logs a 0) power ∙ ok.log ((log e + m) % 255) (omega arith)

  module _ (x y n : ℕ) where
    -- how many bytes stand behind the wrong one, and its error
    abbrev pub behind : ℕ
    behind = (get_or logs y 0 + 255 - get_or logs x 0) * 116 % 255

    abbrev pub error : ℕ
    error = get_or powers ((get_or logs x 0 + 255 - 212 * behind % 255) % 255) 0

    module _ (e p : ℕ) (pos : 0 < e) (byte : e < 256) (inside : p < n) (most : n < 256)
        (first : x ≡ mul e (alpha_to (11 * (112 + 0) * p))) (second : y ≡ mul e (alpha_to (11 * (112 + 1) * p))) where
      behind_is : behind ≡ p
      behind_is =
          ap₂ (λ (a b : ℕ). (a + 255 - b) * 116 % 255) (log_value e (1243 * p) pos byte second)
          (log_value e (1232 * p) pos byte first)
          ∙ place_back (log e) p (omega arith)

      error_is : error ≡ e
      error_is =
          ap₂ (λ (a b : ℕ). get_or powers ((a + 255 - 212 * b % 255) % 255) 0) (log_value e (1232 * p) pos byte first)
          behind_is
          ∙ ap (λ (k : ℕ). get_or powers k 0) (error_back (log e) p (log-lt e pos byte))
          ∙ ok.power (log e) (omega (arith, log-lt e pos byte)) ∙ alpha_to_log e pos byte

    abbrev Wrong : ℕ → ℕ → Type 0
    Wrong e p =
        0 < e → e < 256 → p < n → n < 256
        → x ≡ mul e (alpha_to (11 * (112 + 0) * p)) → y ≡ mul e (alpha_to (11 * (112 + 1) * p)) → ⊥

    -- no byte is wrong in this way
    locates_nothing : ((e p : ℕ) → Wrong e p) → Locates x y n None
    locates_nothing never =
        record { inside = tt; none = λ e. refl; one = λ e p a b c d f g. absurd (never e p a b c d f g) }

    pub locates_none : x ≡ 0 → Locates x y n None
    locates_none z =
        locates_nothing (λ e p pos byte inside most first second. value_positive e _ pos byte (sym first ∙ z))

    pub locates_outside : n ≤ behind → Locates x y n None
    locates_outside out =
        locates_nothing
        (λ e p pos byte inside most first second. omega (arith, behind_is e p pos byte inside most first second))

    error_small : error < 256
    error_small = rw (ok.power ((get_or logs x 0 + 255 - 212 * behind % 255) % 255) (omega arith)) (alpha_to-lt _)

    pub locates_there : (x ≡ 0 → ⊥) → behind < n
        → Locates x y n (Some (record { place = n - 1 - behind; error = error }))
    locates_there not there =
        record {
          inside = (omega arith, error_small);
          none = λ e. absurd (not e);
          one = λ e p pos byte inside most first second.
              ap₂ (λ (i v : ℕ). Some (record { place = i; error = v }))
              (omega (arith, behind_is e p pos byte inside most first second))
              (error_is e p pos byte inside most first second);
        }
