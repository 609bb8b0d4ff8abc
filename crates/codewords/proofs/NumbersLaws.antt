-- The generator's numbers, worked out from its roots, and a division by them: so that examples and tables can be
-- computed quickly. No law of the code words needs the numbers.
--     numbers              the generator's coefficients behind its first
--     generator-numbers    they are
--     checks_of-numbers     so a division by them gives the check bytes
-- Assumes nothing.
use mathlib.Core.Path.{◌≡◌, refl, ap, ap₂}
use mathlib.Core.List.{List, [], ◌∷◌}
use Prim.Native.Nat.{ℕ, zero, suc}
use lib.ListN.{drop, replicate}
use Rattle.ground.specs.Sums.{xors}
use Rattle.field.specs.Field.{up, times_bits, mul, alpha_to}
use Rattle.field.specs.Polynomials.{scaled, by_root}
use Rattle.codewords.specs.CheckBytes.{generator_of, generator, rem_of, checks_of}
use Rattle.codewords.proofs.RootLaws.{low_root, root_low}

abbrev pub numbers : List ℕ
numbers =
    0x5B ∷ 0x7F ∷ 0x56 ∷ 0x10 ∷ 0x1E ∷ 0x0D ∷ 0xEB ∷ 0x61 ∷ 0xA5 ∷ 0x08 ∷ 0x2A ∷ 0x36 ∷ 0x56 ∷ 0xAB ∷ 0x20 ∷ 0x71
    ∷ 0x20 ∷ 0xAB ∷ 0x56 ∷ 0x36 ∷ 0x2A ∷ 0x08 ∷ 0xA5 ∷ 0x61 ∷ 0xEB ∷ 0x0D ∷ 0x1E ∷ 0x10 ∷ 0x56 ∷ 0x7F ∷ 0x5B ∷ 0x01 ∷ []

-- the product over the roots, by their smaller powers
product : ℕ → List ℕ
product zero = 1 ∷ []
product (suc n) = by_root (low_root n) (product n)

product_low : (n : ℕ) → generator_of n ≡ product n
unfolding generator_of product
product_low zero = refl
product_low (suc n) = ap₂ by_root (root_low n) (product_low n)

pub generator-numbers : generator ≡ numbers
unfolding generator product low_root alpha_to up mul times_bits scaled xors
generator-numbers = ap (drop 1) (product_low 32)

pub checks_of-numbers : (w : List ℕ) → checks_of w ≡ rem_of numbers (replicate 32 0) w
unfolding checks_of
checks_of-numbers w = ap (λ (g : List ℕ). rem_of g (replicate 32 0) w) generator-numbers
