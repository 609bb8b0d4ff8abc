-- The generator is what its definition makes it: a product over the roots. Its numbers are not needed for any of this.
--     root-lt              a root is a byte
--     generator_bytes      its coefficients are bytes
--     length-generator     32 of them, without the first
--     generator_root       with the first, which is 1, it is 0 at each root
-- Assumes nothing.
use mathlib.Core.Logic.{⊎_elim}
use mathlib.Core.Path.{◌≡◌, refl, sym, ap, subst, ◌∙◌}
use mathlib.Core.List.{List, [], ◌∷◌}
use Prim.Native.Nat.{ℕ, zero, suc, ◌+◌, ◌*◌, ◌<◌}
use native.Mathlib.Nat.{le_of_suc-le-suc, not-suc-le-zero, eq-or-lt_of_le}
use native.Mathlib.Omega.{arith}
use lib.ListN.{length, drop}
use Rattle.ground.specs.Bytes.{Bytes}
use Rattle.ground.specs.Sums.{xors}
use Rattle.ground.proofs.ByteLaws.{bytes-nil, bytes-cons}
use Rattle.field.specs.Polynomials.{value_at, scaled, by_root}
use Rattle.field.proofs.PowerLaws.{alpha_to-lt}
use Rattle.field.proofs.PolynomialLaws.{length-by_root, bytes-by_root, value_at_root, value_stays_zero}
use Rattle.codewords.specs.CodeBlocks.{first_root, root}
use Rattle.codewords.specs.CheckBytes.{generator_of, generator}

pub root-lt : (k : ℕ) → root k < 256
unfolding root
root-lt k = alpha_to-lt (11 * (first_root + k))

bytes_product : (n : ℕ) → Bytes (generator_of n)
unfolding generator_of
bytes_product zero = bytes-cons 1 [] (omega arith) bytes-nil
bytes_product (suc n) = bytes-by_root (root n) (generator_of n) (root-lt n) (bytes_product n)

length_product : (n : ℕ) → length (generator_of n) ≡ suc n
unfolding generator_of
length_product zero = refl
length_product (suc n) = length-by_root (root n) (generator_of n) ∙ ap suc (length_product n)

-- the first coefficient is 1
monic_by_root : (s : ℕ) (w : List ℕ) → w ≡ 1 ∷ drop 1 w → by_root s w ≡ 1 ∷ drop 1 (by_root s w)
unfolding xors scaled
monic_by_root s w e = subst (λ (v : List ℕ). by_root s v ≡ 1 ∷ drop 1 (by_root s v)) (sym e) refl

monic_product : (n : ℕ) → generator_of n ≡ 1 ∷ drop 1 (generator_of n)
unfolding generator_of
monic_product zero = refl
monic_product (suc n) = monic_by_root (root n) (generator_of n) (monic_product n)

product_root : (n k : ℕ) → k < n → value_at (root k) (generator_of n) ≡ 0
unfolding generator_of
product_root zero k h = absurd (not-suc-le-zero h)
product_root (suc n) k h =
    ⊎_elim (λ e. ap (λ (j : ℕ). value_at (root j) (by_root (root n) (generator_of n))) e
    ∙ value_at_root (root n) (generator_of n) (root-lt n) (bytes_product n))
    (λ l. value_stays_zero (root k) (root n) (generator_of n) (root-lt n) (bytes_product n) (product_root n k l))
    (eq-or-lt_of_le (le_of_suc-le-suc h))

pub generator_root : (k : ℕ) → k < 32 → value_at (root k) (1 ∷ generator) ≡ 0
unfolding generator
generator_root k h = ap (value_at (root k)) (sym (monic_product 32)) ∙ product_root 32 k h

pub generator_bytes : Bytes (1 ∷ generator)
unfolding generator
generator_bytes = subst Bytes (monic_product 32) (bytes_product 32)

pub length-generator : length generator ≡ 32
unfolding generator
length-generator =
    let e : suc (length (drop 1 (generator_of 32))) ≡ 33 = ap length (sym (monic_product 32)) ∙ length_product 32 in
    omega arith
