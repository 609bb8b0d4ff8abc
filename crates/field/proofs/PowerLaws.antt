-- Powers of alpha.
--     alpha_to-lt      a power is a byte
--     alpha_to-add     a product of powers
--     alpha_to-mod     alpha^255 is 1, so only the remainder by 255 counts
--     power_cancel    nothing but 0 times a power is 0
-- Assumes nothing.
use Rattle.std.proofs.Common.{◌≡◌, refl, sym, ap, ◌∙◌, ℕ, zero, suc, ◌+◌, ◌*◌, ◌/◌, ◌%◌, ◌<◌, arith, zero-add}
use Rattle.field.specs.Field.{up, mul, alpha_to}
use Rattle.field.proofs.FieldLaws.{up_lt, mul_up, mul_one, one-mul, mul-zero_l, mul_assoc}

pub alpha_to-lt : (n : ℕ) → alpha_to n < 256
unfolding alpha_to
alpha_to-lt zero = omega arith
alpha_to-lt (suc n) = up_lt (alpha_to n)

pub alpha_to-add : (m n : ℕ) → mul (alpha_to m) (alpha_to n) ≡ alpha_to (m + n)
unfolding alpha_to
alpha_to-add zero n = one-mul (alpha_to n) (alpha_to-lt n) ∙ ap alpha_to (sym (zero-add n))
alpha_to-add (suc m) n =
    let e : suc (m + n) ≡ suc m + n = omega arith in
    mul_up (alpha_to m) (alpha_to n) ∙ ap up (alpha_to-add m n) ∙ ap alpha_to e

-- ---- alpha^255 is 1

period : alpha_to 255 ≡ 1
unfolding alpha_to up
period = refl

rounds : (k n : ℕ) → alpha_to (255 * k + n) ≡ alpha_to n
rounds zero n = ap alpha_to (zero-add n)
rounds (suc k) n =
    let e : 255 * suc k + n ≡ 255 + (255 * k + n) = omega arith in
    let r = alpha_to (255 * k + n) in
    ap alpha_to e ∙ sym (alpha_to-add 255 (255 * k + n)) ∙ ap (λ (x : ℕ). mul x r) period
    ∙ one-mul r (alpha_to-lt (255 * k + n)) ∙ rounds k n

pub alpha_to-mod : (n : ℕ) → alpha_to n ≡ alpha_to (n % 255)
alpha_to-mod n =
    let e : n ≡ 255 * (n / 255) + n % 255 = omega arith in
    ap alpha_to e ∙ rounds (n / 255) (n % 255)

-- alpha^n times alpha^(254 n) is 1
pub power_cancel : (a n : ℕ) → a < 256 → mul a (alpha_to n) ≡ 0 → a ≡ 0
unfolding alpha_to
power_cancel a n h z =
    let inverse = alpha_to (254 * n) in
    let e : 255 * n + 0 ≡ n + 254 * n = omega arith in
    sym (mul_one a) ∙ ap (mul a) (sym (rounds n 0) ∙ ap alpha_to e ∙ sym (alpha_to-add n (254 * n)))
    ∙ sym (mul_assoc a (alpha_to n) inverse h (alpha_to-lt n)) ∙ ap (λ (x : ℕ). mul x inverse) z ∙ mul-zero_l inverse
