-- That the ID worked out of a correction header is the one that most copies of its bits say (specs/CorrectionCases).
--     id_is, is_id    the ID is 1 exactly where most copies of each of its bits are that of 1
-- Assumes nothing.
use mathlib.Core.Logic.{inl, inr}
use mathlib.Core.Path.{◌≡◌}
use Prim.Native.Nat.{ℕ, zero, suc, ◌+◌, ◌*◌, ◌/◌, ◌<◌}
use native.Mathlib.Omega.{arith}
use borrow.Author.Tests.{eqb-true, eqb-false}
use lib.Dec.{eqb}
use Rattle.ground.proofs.CaseLaws.{by_test}
use Rattle.codewords.specs.Corrections.{bit_of, id_of}
use Rattle.demands.specs.CorrectionCases.{bit_at, Most, IdIs}

-- of three bits two are alike, and half their sum is what these are
half_most : (b x y z : ℕ) → x < 2 → y < 2 → z < 2 → (x + y + z) / 2 ≡ b → Most b x y z
half_most b x y z p q r e =
    by_test (eqb x y)
    (λ t. let same = eqb-true x y t in inl (omega (arith, same, e), omega (arith, same, e)))
    (λ t. let other = eqb-false x y t in
    by_test (eqb x z)
    (λ u. let same = eqb-true x z u in inr (inl (omega (arith, same, e), omega (arith, same, e))))
    (λ u. let last = eqb-false x z u in inr (inr (omega (arith, other, last, e), omega (arith, other, last, e)))))

most_half : (b x y z : ℕ) → x < 2 → y < 2 → z < 2 → Most b x y z → (x + y + z) / 2 ≡ b
most_half b x y z p q r (inl h) = omega (arith, h.0, h.1)
most_half b x y z p q r (inr (inl h)) = omega (arith, h.0, h.1)
most_half b x y z p q r (inr (inr h)) = omega (arith, h.0, h.1)

bit-lt : (h i : ℕ) → bit_at h i < 2
bit-lt h i = omega arith

-- half the sum of three bits is a bit
bit_of_lt : (i h : ℕ) → bit_of i h < 2
unfolding bit_of
bit_of_lt i h = omega (arith, bit-lt h i, bit-lt h (i + 5), bit-lt h (i + 10))

-- five bits that make 1
bits_of_one :
    (a b c d e : ℕ) → a < 2 → b < 2 → c < 2 → d < 2 → e < 2 → a + 2 * b + 4 * c + 8 * d + 16 * e ≡ 1
    → (a ≡ 1) × ((b ≡ 0) × ((c ≡ 0) × ((d ≡ 0) × (e ≡ 0))))
bits_of_one a b c d e p q r s t one = omega arith

one_of-bits :
    (a b c d e : ℕ) → a ≡ 1 → b ≡ 0 → c ≡ 0 → d ≡ 0 → e ≡ 0 → a + 2 * b + 4 * c + 8 * d + 16 * e ≡ 1
one_of-bits a b c d e p q r s t = omega arith

below_five : (P : ℕ → Type 0) → P 0 → P 1 → P 2 → P 3 → P 4 → (i : ℕ) → i < 5 → P i
below_five P a b c d e zero low = a
below_five P a b c d e (suc zero) low = b
below_five P a b c d e (suc (suc zero)) low = c
below_five P a b c d e (suc (suc (suc zero))) low = d
below_five P a b c d e (suc (suc (suc (suc zero)))) low = e
below_five P a b c d e (suc (suc (suc (suc (suc i))))) low = absurd (omega arith)

module _ (h : ℕ) where
  -- a bit of the ID is what most of its copies are
  bit_most : (i b : ℕ) → bit_of i h ≡ b → Most b (bit_at h i) (bit_at h (i + 5)) (bit_at h (i + 10))
  unfolding bit_of
  bit_most i b e = half_most b _ _ _ (bit-lt h i) (bit-lt h (i + 5)) (bit-lt h (i + 10)) e

  most_bit : (i b : ℕ) → Most b (bit_at h i) (bit_at h (i + 5)) (bit_at h (i + 10)) → bit_of i h ≡ b
  unfolding bit_of
  most_bit i b m = most_half b _ _ _ (bit-lt h i) (bit-lt h (i + 5)) (bit-lt h (i + 10)) m

  one-bits : id_of h ≡ 1 → (i : ℕ) → i < 5 → bit_of i h ≡ bit_at 1 i
  one-bits one =
      let bits = bits_of_one _ _ _ _ _ (bit_of_lt 0 h) (bit_of_lt 1 h) (bit_of_lt 2 h) (bit_of_lt 3 h) (bit_of_lt 4 h)
      one in
      let rest = bits.1.1 in
      below_five (λ i. bit_of i h ≡ bit_at 1 i) bits.0 bits.1.0 rest.0 rest.1.0 rest.1.1

  bits_one : ((i : ℕ) → i < 5 → bit_of i h ≡ bit_at 1 i) → id_of h ≡ 1
  bits_one bit =
      one_of-bits _ _ _ _ _ (bit 0 (omega arith)) (bit 1 (omega arith)) (bit 2 (omega arith)) (bit 3 (omega arith))
      (bit 4 (omega arith))

  pub id_is : id_of h ≡ 1 → IdIs h 1
  id_is one i low = bit_most i (bit_at 1 i) (one-bits one i low)

  pub is_id : IdIs h 1 → id_of h ≡ 1
  is_id is = bits_one (λ i low. most_bit i (bit_at 1 i) (is i low))
