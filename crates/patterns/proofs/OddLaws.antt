-- The polynomial has an even number of terms, so a step of the register keeps whether its ones are odd in number, and a
-- pattern with an odd number of ones never leaves 0.
--     parity n r     0 if the lowest n digits of r have an even number of ones, else 1
--     left_parity    what digits leave is odd just where the digits are
--     even_ones      a pattern that leaves 0 has an even number of ones
-- Assumes nothing.
use mathlib.Core.List.{List, [], ◌∷◌}
use mathlib.Core.Path.{◌≡◌, refl, sym, ap, ap₂, ◌∙◌}
use Prim.Native.Nat.{ℕ, zero, suc, ◌+◌, ◌*◌, ◌/◌, ◌%◌, ◌<◌, ◌^◌}
use native.Mathlib.Nat.{div-one, add-zero}
use native.Mathlib.Numerals.{add-one}
use native.Mathlib.Omega.{arith}
use lib.Bits.{bit_xor, xor_shr, xor_mod, xor_comm, xor_zero_r}
use lib.Pow.{field, mod-mod-pow, shr-shr}
use Rattle.ground.proofs.XorLaws.{xor_swap, xor_odd, xor_assoc}
use Rattle.crc.specs.Check.{bit_in}
use Rattle.patterns.proofs.Patterns.{left, Digits, ones}

unfoldable parity : ℕ → ℕ → ℕ
parity zero r = 0
parity (suc n) r = bit_xor (r % 2) (parity n (r / 2))

parity-xor : (n r s : ℕ) → parity n (bit_xor r s) ≡ bit_xor (parity n r) (parity n s)
unfolding parity
parity-xor zero r s = refl
parity-xor (suc n) r s =
    ap₂ bit_xor (xor_mod r s 1) (ap (parity n) (xor_shr r s 1) ∙ parity-xor n (r / 2) (s / 2))
    ∙ xor_swap (r % 2) (s % 2) (parity n (r / 2)) (parity n (s / 2))

-- of n + 1 digits the highest is the one that falls out
parity_top : (n r : ℕ) → parity (suc n) r ≡ bit_xor (parity n (r % 2 ^ n)) (r / 2 ^ n % 2)
unfolding parity
parity_top zero r = rw (div-one r) (xor_comm (r % 2) 0)
parity_top (suc n) r =
    let half : r % 2 ^ suc n / 2 ≡ r / 2 % 2 ^ n = ap (λ (m : ℕ). r % 2 ^ m / 2) (sym (add-one n)) ∙ field r n 1 in
    let low : r % 2 ^ suc n % 2 ≡ r % 2 = ap (λ (m : ℕ). r % 2 ^ m % 2) (sym (add-one n)) ∙ mod-mod-pow r n 1 in
    let one : 1 + n ≡ suc n = omega arith in
    let high : r / 2 / 2 ^ n ≡ r / 2 ^ suc n = shr-shr r 1 n ∙ ap (λ (m : ℕ). r / 2 ^ m) one in
    ap (bit_xor (r % 2)) (parity_top n (r / 2))
    ∙ sym (xor_assoc (r % 2) (parity n (r / 2 % 2 ^ n)) (r / 2 / 2 ^ n % 2))
    ∙ rw (half, low, high)

parity_digit : (t : ℕ) → t < 2 → parity 16 t ≡ t
unfolding parity
parity_digit zero h = refl
parity_digit (suc zero) h = refl
parity_digit (suc (suc t)) h = absurd (omega arith)

-- nine terms besides the highest
parity_polynomial : (t : ℕ) → t < 2 → parity 16 (t * 0x3D65) ≡ t
unfolding parity
parity_polynomial zero h = refl
parity_polynomial (suc zero) h = refl
parity_polynomial (suc (suc t)) h = absurd (omega arith)

parity-shifted : (r : ℕ) → parity 16 (r * 2 % 65536) ≡ parity 15 (r % 32768)
unfolding parity
parity-shifted r =
    let even : r * 2 % 65536 % 2 ≡ 0 = omega arith in
    let back : r * 2 / 2 ≡ r = omega arith in
    let half : r * 2 % 65536 / 2 ≡ r % 32768 = field (r * 2) 15 1 ∙ ap (λ (x : ℕ). x % 32768) back in
    let low = parity 15 (r % 32768) in
    ap₂ (λ (x y : ℕ). bit_xor x (parity 15 y)) even half ∙ xor_comm 0 low ∙ xor_zero_r low

parity_step : (r : ℕ) → parity 16 (bit_in r) ≡ parity 16 r
unfolding bit_in
parity_step r =
    parity-xor 16 (r * 2 % 65536) (r / 32768 % 2 * 0x3D65)
    ∙ ap₂ bit_xor (parity-shifted r) (parity_polynomial (r / 32768 % 2) (omega arith))
    ∙ sym (parity_top 15 r)

-- xor and sum agree in their lowest digit
add_parity : (x t n : ℕ) → t < 2 → (bit_xor x t + n) % 2 ≡ (x + (t + n)) % 2
add_parity x t n h = omega (arith, xor_odd x t)

left_parity : (r : ℕ) (u : List ℕ) → Digits u → parity 16 (left r u) % 2 ≡ (parity 16 r + ones u) % 2
unfolding left ones
left_parity r [] d = rw (add-zero (parity 16 r))
left_parity r (t ∷ u) d =
    left_parity (bit_xor (bit_in r) t) u (λ p. d (suc p))
    ∙ ap (λ (x : ℕ). (x + ones u) % 2)
    (parity-xor 16 (bit_in r) t ∙ ap₂ bit_xor (parity_step r) (parity_digit t (d 0)))
    ∙ add_parity (parity 16 r) t (ones u) (d 0)

pub even_ones : (u : List ℕ) → Digits u → left 0 u ≡ 0 → ones u % 2 ≡ 0
unfolding parity
even_ones u d none =
    let sum : parity 16 (left 0 u) % 2 ≡ (0 + ones u) % 2 = left_parity 0 u d in
    let zero_left : parity 16 (left 0 u) % 2 ≡ 0 = ap (λ (x : ℕ). parity 16 x % 2) none in
    omega arith
