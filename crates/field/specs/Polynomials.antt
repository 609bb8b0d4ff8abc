-- Polynomials over the field, as the list of their coefficients, that of the highest power first.
--     eval_from r a w    the value at r of a polynomial that begins with coefficients of the value a and goes on with w
--     value_at r w       the value of w at r, by Horner's rule
--     scaled c w        w times the element c
--     by_root r w        w times x + r, which is 0 at r
use Rattle.std.specs.Prelude.{List, [], ◌∷◌, ◌++◌, ℕ}
use Rattle.std.specs.Int.Bits.{bit_xor}
use Rattle.ground.specs.Sums.{xors}
use Rattle.field.specs.Field.{mul}

unfoldable pub eval_from : ℕ → ℕ → List ℕ → ℕ
eval_from r a [] = a
eval_from r a (b ∷ bs) = eval_from r (bit_xor (mul a r) b) bs

abbrev pub value_at : ℕ → List ℕ → ℕ
value_at r w = eval_from r 0 w

unfoldable pub scaled : ℕ → List ℕ → List ℕ
scaled c [] = []
scaled c (b ∷ bs) = mul c b ∷ scaled c bs

abbrev pub by_root : ℕ → List ℕ → List ℕ
by_root r w = xors (w ++ (0 ∷ [])) (0 ∷ scaled r w)
