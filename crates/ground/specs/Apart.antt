-- Two lists compared place by place.
--     apart u v    at how many places u and v differ, as far as both go
use Rattle.std.specs.Prelude.{cond, List, [], ◌∷◌, ℕ, ◌+◌, eqb}

unfoldable pub apart : List ℕ → List ℕ → ℕ
apart [] v = 0
apart (x ∷ u) [] = 0
apart (x ∷ u) (y ∷ v) = cond (eqb x y) 0 1 + apart u v
