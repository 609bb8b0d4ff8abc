-- The exponents that values and terms are worked out by.
--     root_power     the power of alpha that a root is
--     first_term, next_term   what a byte adds to the value at the first root, and at the next one
--     term_positive           nothing but 0 adds nothing
-- Assumes nothing.
use Rattle.std.proofs.Common.{◌≡◌, sym, ap, ap₂, ◌∙◌, ℕ, ◌+◌, ◌*◌, ◌%◌, ◌<◌, pos_of_ne-zero, arith}
use Rattle.field.specs.Field.{mul, alpha_to}
use Rattle.field.proofs.FieldLaws as field
use Rattle.field.proofs.PowerLaws.{alpha_to-lt, alpha_to-add, alpha_to-mod, power_cancel}
use Rattle.codewords.specs.CodeBlocks.{root}
use Rattle.repairing.specs.Inner.{term}

pub root_power : (k : ℕ) → alpha_to ((1232 + 11 * k) % 255) ≡ root k
unfolding root
root_power k =
    let e : 1232 + 11 * k ≡ 11 * (112 + k) = omega arith in
    sym (alpha_to-mod (1232 + 11 * k)) ∙ ap alpha_to e

pub first_term : (e p : ℕ) → mul e (alpha_to (1232 * p % 255)) ≡ term e p 0
first_term e p =
    let n : 1232 * p ≡ 11 * ((112 + 0) * p) = omega arith in
    ap (mul e) (sym (alpha_to-mod (1232 * p)) ∙ ap alpha_to n)

pub next_term : (e p k : ℕ) {t u : ℕ} → e < 256 → t ≡ term e p k → u ≡ mul t (alpha_to (11 * p % 255))
    → u ≡ term e p (k + 1)
next_term e p k small et eu =
    let a = 11 * ((112 + k) * p) in
    let n : a + 11 * p ≡ 11 * ((112 + (k + 1)) * p) = omega arith in
    eu ∙ ap₂ mul et (sym (alpha_to-mod (11 * p)))
    ∙ field.mul_assoc e (alpha_to a) (alpha_to (11 * p)) small (alpha_to-lt a)
    ∙ ap (mul e) (alpha_to-add a (11 * p) ∙ ap alpha_to n)

-- nothing but 0 adds nothing
pub term_positive : (y n : ℕ) {t : ℕ} → 0 < y → y < 256 → t ≡ mul y (alpha_to n) → 0 < t
term_positive y n pos small e =
    pos_of_ne-zero (λ z. let gone : y ≡ 0 = power_cancel y n small (sym e ∙ z) in omega arith)
