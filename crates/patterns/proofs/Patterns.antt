-- Patterns of digits in the register of the block check, in which the laws of this crate and of `damage` are told.
-- Nobody has to believe these words: no promise and no contract is said in them.
--     left r u        the register after the digits u, the first one first, each added at its low end: from 0 on it is
--                     what their number leaves when it is divided by the polynomial
--     Digits u        each element is 0 or 1
--     Zeros u         each is 0
--     ones u          how many ones there are
--     Behind n u      from place n on each is 0
--     InWindow w u    all that are not 0 lie within w consecutive places
use mathlib.Core.List.{List, [], ◌∷◌}
use mathlib.Core.Path.{◌≡◌}
use Prim.Native.Nat.{ℕ, ◌+◌, ◌≤◌, ◌<◌}
use lib.Bits.{bit_xor}
use lib.ListN.{get_or}
use Rattle.crc.specs.Check.{bit_in}

unfoldable pub left : ℕ → List ℕ → ℕ
left r [] = r
left r (t ∷ u) = left (bit_xor (bit_in r) t) u

abbrev pub Digits : List ℕ → Type 0
Digits u = (p : ℕ) → get_or u p 0 < 2

abbrev pub Zeros : List ℕ → Type 0
Zeros u = (p : ℕ) → get_or u p 0 ≡ 0

unfoldable pub ones : List ℕ → ℕ
ones [] = 0
ones (t ∷ u) = t + ones u

abbrev pub Behind : ℕ → List ℕ → Type 0
Behind n u = (p : ℕ) → n ≤ p → get_or u p 0 ≡ 0

abbrev pub InWindow : ℕ → List ℕ → Type 0
InWindow w u = (first : ℕ) × ((p : ℕ) → (get_or u p 0 ≡ 0 → ⊥) → (first ≤ p) × (p < first + w))
