-- Sums of lists of bit patterns, place by place.
--     xors u v    the sums of what stands at equal places, as many as the shorter list has
use Rattle.std.specs.Prelude.{List, [], ◌∷◌, ℕ}
use Rattle.std.specs.Int.Bits.{bit_xor}

unfoldable pub xors : List ℕ → List ℕ → List ℕ
xors [] bs = []
xors (x ∷ xs) [] = []
xors (x ∷ xs) (b ∷ bs) = bit_xor x b ∷ xors xs bs
