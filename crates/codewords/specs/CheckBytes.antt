-- The check bytes worked out (document 02, 11/14): the remainder of the word and 32 zero bytes behind it, divided by
-- the generator, byte by byte. Nobody has to believe the division: its result corrects the word (specs/CodeBlocks), and
-- nothing else does (proofs/UniqueLaws).
--     generator_of n    the product of x + root k for the first n roots
--     generator        that of all 32, without its first coefficient, which is 1
--     step_in g m x     the remainder m after one byte more of the word; the divisor's coefficients are 1 and g
--     rem_of g m w      after the bytes w
--     checks_of w       the check bytes of w, that of the highest power first
use Rattle.std.specs.Prelude.{List, [], ◌∷◌, ◌++◌, ℕ, zero, suc, drop, replicate}
use Rattle.std.specs.Int.Bits.{bit_xor}
use Rattle.ground.specs.Sums.{xors}
use Rattle.field.specs.Polynomials.{scaled, by_root}
use Rattle.codewords.specs.CodeBlocks.{root}

unfoldable pub generator_of : ℕ → List ℕ
generator_of zero = 1 ∷ []
generator_of (suc n) = by_root (root n) (generator_of n)

unfoldable pub generator : List ℕ
generator = drop 1 (generator_of 32)

unfoldable pub step_in : List ℕ → List ℕ → ℕ → List ℕ
step_in g [] x = []
step_in g (a ∷ m) x = xors (m ++ (0 ∷ [])) (scaled (bit_xor a x) g)

unfoldable pub rem_of : List ℕ → List ℕ → List ℕ → List ℕ
rem_of g m [] = m
rem_of g m (x ∷ w) = rem_of g (step_in g m x) w

unfoldable pub checks_of : List ℕ → List ℕ
checks_of w = rem_of generator (replicate 32 0) w
