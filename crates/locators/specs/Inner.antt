-- Division of a polynomial by x + r, by Horner's rule.
--     partials r a w     the values on the way to `eval_from r a w`, one for each coefficient
--     quotient r v       where v is all of a polynomial but its last coefficient, which settles only the remainder: the
--                        polynomial divided by x + r
use Rattle.std.specs.Prelude.{List, [], ◌∷◌, ℕ}
use Rattle.std.specs.Int.Bits.{bit_xor}
use Rattle.field.specs.Field.{mul}

unfoldable pub partials : ℕ → ℕ → List ℕ → List ℕ
partials r a [] = []
partials r a (b ∷ w) = bit_xor (mul a r) b ∷ partials r (bit_xor (mul a r) b) w

abbrev pub quotient : ℕ → List ℕ → List ℕ
quotient r v = partials r 0 v
