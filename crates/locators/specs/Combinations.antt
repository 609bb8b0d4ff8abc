-- Numbers and polynomials over the field, combined. A polynomial is the list of its coefficients, that of the highest
-- power first (field/specs/Polynomials).
--     combined s v i     the numbers s_i, s_(i + 1), .., each times the coefficient of v's power 0, 1, .., added up
use Rattle.std.specs.Prelude.{List, [], ◌∷◌, ℕ, ◌+◌, length, get_or}
use Rattle.std.specs.Int.Bits.{bit_xor}
use Rattle.field.specs.Field.{mul}

unfoldable pub combined : List ℕ → List ℕ → ℕ → ℕ
combined s [] i = 0
combined s (b ∷ v) i = bit_xor (mul b (get_or s (i + length v) 0)) (combined s v i)
