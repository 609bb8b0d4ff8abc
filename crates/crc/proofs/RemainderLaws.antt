-- Laws of the remainder that a number leaves (specs/Inner).
--     bits_in-zero, bits_in-add, bits_in_commute   steps of the register
--     rem_of-xor          sums of bit patterns
--     rem_of_wide         leading zeros do not matter
--     remainder-shifted  digits behind a number are steps of its register
--     remainder_small    a number of sixteen digits is its own register
--     rem_of_nested       n steps as a sum of fewer, for every number: the one fact is computed at the number 1
-- Assumes nothing.
use mathlib.Core.Path.{◌≡◌, refl, sym, ap, ap₂, ◌∙◌}
use mathlib.Core.List.{List, [], ◌∷◌}
use Prim.Native.Nat.{ℕ, zero, suc, ◌+◌, ◌*◌, ◌/◌, ◌%◌, ◌^◌, ◌<◌, ◌≤◌}
use native.Mathlib.Nat.{pow-suc, zero-add, mul-one, mul_comm, mul_assoc}
use native.Mathlib.Omega.{arith}
use lib.Bits.{bit_xor, xor_shr, xor_mod, xor_zero_r, xor_shifted}
use lib.Pow.{pow_mono}
use Rattle.ground.proofs.XorLaws.{xor_swap}
use Rattle.crc.specs.Check.{bit_in, bits_in}
use Rattle.crc.specs.Inner.{rem_of, remainder, nested}
use Rattle.crc.proofs.CheckLaws.{bit_in_low, bit_in-xor, bits_in-xor}

-- ---- steps of the register

bit_in-zero : bit_in 0 ≡ 0
unfolding bit_in
bit_in-zero = refl

pub bits_in-zero : (n : ℕ) → bits_in n 0 ≡ 0
unfolding bits_in bit_in
bits_in-zero zero = refl
bits_in-zero (suc n) = bits_in-zero n

pub bits_in-add : (n k r : ℕ) → bits_in n (bits_in k r) ≡ bits_in (k + n) r
unfolding bits_in
bits_in-add n zero r = rw (zero-add n)
bits_in-add n (suc k) r =
    let e : suc k + n ≡ suc (k + n) = omega arith in
    rw e (bits_in-add n k (bit_in r))

pub bits_in_commute : (n r : ℕ) → bits_in n (bit_in r) ≡ bit_in (bits_in n r)
unfolding bits_in
bits_in_commute zero r = refl
bits_in_commute (suc n) r = bits_in_commute n (bit_in r)

-- ---- remainders

pub rem_of-xor : (k a b : ℕ) → rem_of k (bit_xor a b) ≡ bit_xor (rem_of k a) (rem_of k b)
unfolding rem_of
rem_of-xor zero a b = refl
rem_of-xor (suc k) a b =
    ap₂ bit_xor (ap (λ (x : ℕ). bit_in (rem_of k x)) (xor_shr a b 1) ∙ ap bit_in (rem_of-xor k (a / 2) (b / 2))
    ∙ bit_in-xor (rem_of k (a / 2)) (rem_of k (b / 2)))
    (xor_mod a b 1)
    ∙ xor_swap (bit_in (rem_of k (a / 2))) (bit_in (rem_of k (b / 2))) (a % 2) (b % 2)

rem_of_next : (k m : ℕ) → m < 2 ^ k → rem_of (suc k) m ≡ rem_of k m
unfolding rem_of bit_in
rem_of_next zero m h = let e : m ≡ 0 = omega arith in rw e
rem_of_next (suc k) m h =
    let half : m / 2 < 2 ^ k = omega (arith, pow-suc 2 k) in
    ap (λ (x : ℕ). bit_xor (bit_in x) (m % 2)) (rem_of_next k (m / 2) half)

pub rem_of_wide : (d k m : ℕ) → m < 2 ^ k → rem_of (d + k) m ≡ rem_of k m
rem_of_wide zero k m h = rw (zero-add k)
rem_of_wide (suc d) k m h =
    let e : suc d + k ≡ suc (d + k) = omega arith in
    let wide : m < 2 ^ (d + k) = omega (arith, pow_mono {i = k} {j = d + k} (omega arith)) in
    rw e (rem_of_next (d + k) m wide ∙ rem_of_wide d k m h)

-- one more digit, a zero
rem_of_double : (k m : ℕ) → rem_of (suc k) (m * 2) ≡ bit_in (rem_of k m)
unfolding rem_of
rem_of_double k m =
    let half : m * 2 / 2 ≡ m = omega arith in
    let even : m * 2 % 2 ≡ 0 = omega arith in
    ap₂ (λ (x t : ℕ). bit_xor (bit_in (rem_of k x)) t) half even ∙ xor_zero_r (bit_in (rem_of k m))

remainder_double : (m : ℕ) → m < 2 ^ 63 → remainder (m * 2) ≡ bit_in (remainder m)
remainder_double m h = rem_of_double 63 m ∙ ap bit_in (sym (rem_of_next 63 m h))

pub remainder-shifted : (j k m : ℕ) → m < 2 ^ k → k + j ≤ 64 → remainder (m * 2 ^ j) ≡ bits_in j (remainder m)
unfolding bits_in
remainder-shifted zero k m h fits = ap remainder (mul-one m)
remainder-shifted (suc j) k m h fits =
    let e : m * 2 ^ suc j ≡ m * 2 * 2 ^ j =
    ap (λ (x : ℕ). m * x) (pow-suc 2 j ∙ mul_comm (2 ^ j) 2) ∙ sym (mul_assoc m 2 (2 ^ j)) in
    let small : m < 2 ^ 63 = omega (arith, pow_mono {i = k} {j = 63} (omega arith)) in
    let next : m * 2 < 2 ^ suc k = omega (arith, pow-suc 2 k) in
    ap remainder e ∙ remainder-shifted j (suc k) (m * 2) next (omega arith) ∙ ap (bits_in j) (remainder_double m small)

rem_of_itself : (k m : ℕ) → k ≤ 16 → m < 2 ^ k → rem_of k m ≡ m
unfolding rem_of
rem_of_itself zero m le h = omega arith
rem_of_itself (suc k) m le h =
    let half : m / 2 < 2 ^ k = omega (arith, pow-suc 2 k) in
    let low : m / 2 < 32768 = omega (arith, pow_mono {i = k} {j = 15} (omega arith)) in
    let whole : m / 2 * 2 % 65536 ≡ m / 2 * 2 = omega arith in
    let all : m / 2 * 2 + m % 2 ≡ m = omega arith in
    ap (λ (x : ℕ). bit_xor (bit_in x) (m % 2)) (rem_of_itself k (m / 2) (omega arith) half)
    ∙ ap (λ (x : ℕ). bit_xor x (m % 2)) (sym (bit_in_low (m / 2) low) ∙ whole)
    ∙ xor_shifted (m / 2) 1 (m % 2) (omega arith) ∙ all

pub remainder_small : (m : ℕ) → m < 65536 → remainder m ≡ m
remainder_small m h = rem_of_wide 48 16 m h ∙ rem_of_itself 16 m (omega arith) h

-- ---- sums of steps

nested-xor : (gs : List ℕ) (x y : ℕ) → nested gs (bit_xor x y) ≡ bit_xor (nested gs x) (nested gs y)
unfolding nested
nested-xor [] x y = refl
nested-xor (g ∷ gs) x y =
    ap (bits_in g)
    (ap (λ (z : ℕ). bit_xor z (bit_xor x y)) (nested-xor gs x y) ∙ xor_swap (nested gs x) (nested gs y) x y)
    ∙ bits_in-xor g (bit_xor (nested gs x) x) (bit_xor (nested gs y) y)

nested-bit_in : (gs : List ℕ) (r : ℕ) → nested gs (bit_in r) ≡ bit_in (nested gs r)
unfolding nested
nested-bit_in [] r = sym bit_in-zero
nested-bit_in (g ∷ gs) r =
    ap (bits_in g)
    (ap (λ (z : ℕ). bit_xor z (bit_in r)) (nested-bit_in gs r) ∙ sym (bit_in-xor (nested gs r) r))
    ∙ bits_in_commute g (bit_xor (nested gs r) r)

nested-zero : (gs : List ℕ) → nested gs 0 ≡ 0
unfolding nested
nested-zero [] = refl
nested-zero (g ∷ gs) = ap (bits_in g) (xor_zero_r (nested gs 0) ∙ nested-zero gs) ∙ bits_in-zero g

nested_digit : (n : ℕ) (gs : List ℕ) (t : ℕ) → bits_in n 1 ≡ nested gs 1 → t < 2 → bits_in n t ≡ nested gs t
nested_digit n gs zero one h = bits_in-zero n ∙ sym (nested-zero gs)
nested_digit n gs (suc zero) one h = one
nested_digit n gs (suc (suc t)) one h = absurd (omega arith)

pub rem_of_nested : (n : ℕ) (gs : List ℕ) → bits_in n 1 ≡ nested gs 1 → (k m : ℕ)
    → bits_in n (rem_of k m) ≡ nested gs (rem_of k m)
unfolding rem_of
rem_of_nested n gs one zero m = nested_digit n gs 0 one (omega arith)
rem_of_nested n gs one (suc k) m =
    let r = rem_of k (m / 2) in
    bits_in-xor n (bit_in r) (m % 2)
    ∙ ap₂ bit_xor (bits_in_commute n r ∙ ap bit_in (rem_of_nested n gs one k (m / 2)) ∙ sym (nested-bit_in gs r))
    (nested_digit n gs (m % 2) one (omega arith))
    ∙ sym (nested-xor gs (bit_in r) (m % 2))
