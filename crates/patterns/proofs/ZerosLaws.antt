-- Patterns of zeros.
--     not_one                      a digit that is not other than 0
--     zeros-cons, zeros_front, zeros_back, zeros-append    one digit more, parts, and two of them
--     left_zeros                   zeros leave 0 of 0
--     inside                       what is not 0 stands in the list
-- Assumes nothing.
use mathlib.Core.List.{List, [], ◌∷◌, ◌++◌}
use mathlib.Core.Path.{◌≡◌, refl, sym, ap, ◌∙◌}
use Prim.Native.Nat.{ℕ, zero, suc, ◌+◌, ◌<◌}
use native.Mathlib.Omega.{arith}
use lib.ListN.{length, get_or}
use lib.Seq.{get_or-append-add}
use Rattle.crc.specs.Check.{bit_in}
use Rattle.patterns.proofs.Patterns.{left, Zeros}

pub not_one : (t : ℕ) → t < 2 → ((t ≡ 0 → ⊥) → ⊥) → t ≡ 0
not_one zero h none = refl
not_one (suc t) h none = absurd (none (λ e. omega arith))

pub zeros-cons : (t : ℕ) (u : List ℕ) → t ≡ 0 → Zeros u → Zeros (t ∷ u)
zeros-cons t u e z zero = e
zeros-cons t u e z (suc p) = z p

pub zeros_front : (u v : List ℕ) → Zeros (u ++ v) → Zeros u
zeros_front [] v z p = refl
zeros_front (t ∷ u) v z zero = z 0
zeros_front (t ∷ u) v z (suc p) = zeros_front u v (λ q. z (suc q)) p

pub zeros_back : (u v : List ℕ) → Zeros (u ++ v) → Zeros v
zeros_back u v z p = sym (get_or-append-add u v p 0) ∙ z (length u + p)

pub zeros-append : (u v : List ℕ) → Zeros u → Zeros v → Zeros (u ++ v)
zeros-append [] v y z p = z p
zeros-append (t ∷ u) v y z zero = y 0
zeros-append (t ∷ u) v y z (suc p) = zeros-append u v (λ q. y (suc q)) z p

pub left_zeros : (u : List ℕ) → Zeros u → left 0 u ≡ 0
unfolding left bit_in
left_zeros [] z = refl
left_zeros (t ∷ u) z = ap (λ (x : ℕ). left x u) (z 0) ∙ left_zeros u (λ p. z (suc p))

pub inside : (u : List ℕ) (p : ℕ) → (get_or u p 0 ≡ 0 → ⊥) → p < length u
inside [] p one = absurd (one refl)
inside (t ∷ u) zero one = omega arith
inside (t ∷ u) (suc p) one = omega (arith, inside u p one)
