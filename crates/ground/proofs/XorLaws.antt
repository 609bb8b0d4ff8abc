-- Addition of bit patterns, `bit_xor` of lib.Bits: the laws that library lacks.
--     xor_odd                    the lowest digit of a sum of patterns
--     xor_assoc                  brackets do not matter
--     xor_swap, xor_last         the middle two of four, the last two of three change places
--     xor_cancel, xor_cancel_r   a pattern added twice is gone
--     xor_equal                  two patterns whose sum is 0 are one
--     xor-shl                    a shift to the left passes through
use mathlib.Core.Path.{◌≡◌, refl, sym, ap, ap₂, ◌∙◌}
use Prim.Native.Nat.{ℕ, ◌+◌, ◌*◌, ◌/◌, ◌%◌, ◌^◌}
use native.Mathlib.Omega.{arith}
use native.Mathlib.Nat.{add-zero}
use lib.Arith.{bin_ind}
use lib.Bits.{bit_xor, bit_and, xor_add_and, xor_shr, xor_comm, xor_self, xor_block, xor_zero_r}
use lib.Pow.{pow_pos}

-- two numbers with the same half and the same lowest digit
from_digits : (x y : ℕ) → x / 2 ≡ y / 2 → x % 2 ≡ y % 2 → x ≡ y
from_digits x y h l = omega arith

pub xor_odd : (a b : ℕ) → bit_xor a b % 2 ≡ (a + b) % 2
xor_odd a b = let h : bit_xor a b + bit_and a b * 2 ≡ a + b = xor_add_and a b in omega arith

add_odd : (x a c : ℕ) → x % 2 ≡ a % 2 → (x + c) % 2 ≡ (a + c) % 2
add_odd x a c h = omega arith

odd-add : (x b c : ℕ) → x % 2 ≡ b % 2 → (c + x) % 2 ≡ (c + b) % 2
odd-add x b c h = omega arith

add_three : (a b c : ℕ) → (a + b + c) % 2 ≡ (a + (b + c)) % 2
add_three a b c = omega arith

odd_assoc : (a b c : ℕ) → bit_xor (bit_xor a b) c % 2 ≡ bit_xor a (bit_xor b c) % 2
odd_assoc a b c =
    xor_odd (bit_xor a b) c ∙ add_odd (bit_xor a b) (a + b) c (xor_odd a b) ∙ add_three a b c
    ∙ sym (xor_odd a (bit_xor b c) ∙ odd-add (bit_xor b c) (b + c) a (xor_odd b c))

half_assoc : (a b c : ℕ) → bit_xor (bit_xor a b) c / 2 ≡ bit_xor (bit_xor (a / 2) (b / 2)) (c / 2)
half_assoc a b c = xor_shr (bit_xor a b) c 1 ∙ ap (λ (x : ℕ). bit_xor x (c / 2)) (xor_shr a b 1)

assoc_half : (a b c : ℕ) → bit_xor a (bit_xor b c) / 2 ≡ bit_xor (a / 2) (bit_xor (b / 2) (c / 2))
assoc_half a b c = xor_shr a (bit_xor b c) 1 ∙ ap (λ (x : ℕ). bit_xor (a / 2) x) (xor_shr b c 1)

pub xor_assoc : (a b c : ℕ) → bit_xor (bit_xor a b) c ≡ bit_xor a (bit_xor b c)
xor_assoc =
    bin_ind (λ (a : ℕ). (b c : ℕ) → bit_xor (bit_xor a b) c ≡ bit_xor a (bit_xor b c)) (λ b c. refl)
    (λ a ih b c.
    from_digits _ _ (half_assoc a b c ∙ ih (b / 2) (c / 2) ∙ sym (assoc_half a b c)) (odd_assoc a b c))

pub xor_last : (a b c : ℕ) → bit_xor (bit_xor a b) c ≡ bit_xor (bit_xor a c) b
xor_last a b c = xor_assoc a b c ∙ ap (bit_xor a) (xor_comm b c) ∙ sym (xor_assoc a c b)

pub xor_swap : (a b c d : ℕ) → bit_xor (bit_xor a b) (bit_xor c d) ≡ bit_xor (bit_xor a c) (bit_xor b d)
xor_swap a b c d =
    sym (xor_assoc (bit_xor a b) c d) ∙ ap (λ (x : ℕ). bit_xor x d) (xor_last a b c) ∙ xor_assoc (bit_xor a c) b d

pub xor_cancel : (a b : ℕ) → bit_xor a (bit_xor a b) ≡ b
xor_cancel a b = sym (xor_assoc a a b) ∙ ap (λ (x : ℕ). bit_xor x b) (xor_self a)

pub xor_cancel_r : (a b : ℕ) → bit_xor (bit_xor a b) b ≡ a
xor_cancel_r a b = xor_assoc a b b ∙ ap (bit_xor a) (xor_self b) ∙ xor_zero_r a

pub xor_equal : (a b : ℕ) → bit_xor a b ≡ 0 → a ≡ b
xor_equal a b z = sym (xor_cancel_r a b) ∙ ap (λ (x : ℕ). bit_xor x b) z

pub xor-shl : (a b k : ℕ) → bit_xor a b * 2 ^ k ≡ bit_xor (a * 2 ^ k) (b * 2 ^ k)
xor-shl a b k =
    sym
    (ap₂ bit_xor (sym (add-zero (a * 2 ^ k))) (sym (add-zero (b * 2 ^ k)))
    ∙ xor_block k a b 0 0 (pow_pos k) (pow_pos k)
    ∙ add-zero (bit_xor a b * 2 ^ k))
