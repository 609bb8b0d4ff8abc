-- Binary digit n of a number, x / 2 ^ n % 2, and what the operators on bit patterns do to it.
--     bit-mod    cut to w digits: those below w stay
--     bit-shr    shifted down
--     bit-shl    shifted up within w digits
--     bit_and_lem    a digit that both have
--     bit_not    a digit that the other pattern, all ones, turns over
--     bit_none   no digit from k on
--     leading_none   nor any of the leading zeros of w digits
use mathlib.Core.Path.{◌≡◌, ap, ap₂, sym, ◌∙◌}
use Prim.Native.Nat.{ℕ, suc, ◌+◌, ◌*◌, ◌-◌, ◌/◌, ◌%◌, ◌^◌, ◌<◌, ◌≤◌}
use native.Mathlib.Nat.{pow-suc, zero-div, div-eq_of_lt}
use lib.Count.{count_leading_zeros, leading_length}
use native.Mathlib.Omega.{arith}
use lib.Bits.{bit_and, bit_xor, and_shr, and_mod, xor_shr, xor_mod}
use lib.Pow.{shr-shr, shl-shr, field, mod-mod-pow, ones_split, high, ones_lt, pow_pos}

pub bit-mod : (x w n : ℕ) → n < w → x % 2 ^ w / 2 ^ n % 2 ≡ x / 2 ^ n % 2
bit-mod x w n h =
    let cut : w ≡ w - n - 1 + 1 + n = omega arith in
    ap (λ (e : ℕ). x % 2 ^ e / 2 ^ n % 2) cut ∙ ap (λ (y : ℕ). y % 2) (field x (w - n - 1 + 1) n)
    ∙ mod-mod-pow (x / 2 ^ n) (w - n - 1) 1

pub bit-shr : (x k n : ℕ) → x / 2 ^ k / 2 ^ n % 2 ≡ x / 2 ^ (k + n) % 2
bit-shr x k n = ap (λ (y : ℕ). y % 2) (shr-shr x k n)

pub bit-shl : (x w k n : ℕ) → k ≤ n → n < w → x * 2 ^ k % 2 ^ w / 2 ^ n % 2 ≡ x / 2 ^ (n - k) % 2
bit-shl x w k n le h =
    let cut : k + (n - k) ≡ n = omega arith in
    bit-mod (x * 2 ^ k) w n h
    ∙ ap (λ (y : ℕ). y % 2)
    (ap (λ (e : ℕ). x * 2 ^ k / 2 ^ e) (sym cut)
    ∙ sym (shr-shr (x * 2 ^ k) k (n - k))
    ∙ ap (λ (y : ℕ). y / 2 ^ (n - k)) (shl-shr x k))

pub bit_and_lem : (a b n : ℕ) → a / 2 ^ n % 2 ≡ 1 → b / 2 ^ n % 2 ≡ 1 → bit_and a b / 2 ^ n % 2 ≡ 1
bit_and_lem a b n p q = ap (λ (y : ℕ). y % 2) (and_shr a b n) ∙ and_mod (a / 2 ^ n) (b / 2 ^ n) 1 ∙ ap₂ bit_and p q

-- the number of w ones
ones_bit : (w n : ℕ) → n < w → (2 ^ w - 1) / 2 ^ n % 2 ≡ 1
ones_bit w n h =
    let cut : w ≡ suc (w - n - 1) + n = omega arith in
    let top : (2 ^ w - 1) / 2 ^ n ≡ 2 ^ suc (w - n - 1) - 1 =
    ap (λ (e : ℕ). (2 ^ e - 1) / 2 ^ n) cut ∙ ap (λ (y : ℕ). y / 2 ^ n) (ones_split (suc (w - n - 1)) n)
    ∙ high (2 ^ suc (w - n - 1) - 1) n (ones_lt n) in
    rw (top, pow-suc 2 (w - n - 1)) (omega (arith, pow_pos (w - n - 1)))

pub bit_not : (x w n : ℕ) → n < w → x / 2 ^ n % 2 ≡ 0 → bit_xor x (2 ^ w - 1) / 2 ^ n % 2 ≡ 1
bit_not x w n h e =
    ap (λ (y : ℕ). y % 2) (xor_shr x (2 ^ w - 1) n) ∙ xor_mod (x / 2 ^ n) ((2 ^ w - 1) / 2 ^ n) 1
    ∙ ap₂ bit_xor e (ones_bit w n h)

pub bit_none : (x k n : ℕ) → k ≤ n → x / 2 ^ k ≡ 0 → x / 2 ^ n % 2 ≡ 0
bit_none x k n le e =
    let cut : k + (n - k) ≡ n = omega arith in
    ap (λ (m : ℕ). x / 2 ^ m % 2) (sym cut) ∙ sym (bit-shr x k (n - k)) ∙ ap (λ (y : ℕ). y / 2 ^ (n - k) % 2) e
    ∙ rw (zero-div (2 ^ (n - k)))

pub leading_none : (x w : ℕ) → x < 2 ^ w → x / 2 ^ (w - count_leading_zeros w x) ≡ 0
leading_none x w h =
    let shape = leading_length w x h in
    let digits : w - count_leading_zeros w x ≡ shape.0 = omega (arith, shape.1) in
    rw digits (div-eq_of_lt shape.2)
