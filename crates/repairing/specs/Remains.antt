-- What a remainder has of its word.
--     Remains w rest    rest has the values of w at the roots
use Rattle.std.specs.Prelude.{List, ◌≡◌, ℕ, ◌<◌}
use Rattle.field.specs.Polynomials.{value_at}
use Rattle.codewords.specs.CodeBlocks.{root}

abbrev pub Remains : List ℕ → List ℕ → Type 0
Remains w rest = (k : ℕ) → k < 32 → value_at (root k) rest ≡ value_at (root k) w
