-- A number above every one of a list (specs/History, Above).
--     above-nil, above-cons, above-append    of lists that are put together
--     above-le     a larger number
-- Assumes nothing.
use mathlib.Core.List.{List, [], ◌∷◌, ◌++◌}
use Prim.Native.Nat.{ℕ, zero, suc, ◌≤◌, ◌<◌}
use native.Mathlib.Omega.{arith}
use Rattle.sessions.specs.History.{Above}

module _ (n : ℕ) where
  pub above-nil : Above n []
  above-nil i h = absurd (omega arith)

  pub above-cons : (x : ℕ) (l : List ℕ) → x < n → Above n l → Above n (x ∷ l)
  above-cons x l p h zero q = p
  above-cons x l p h (suc i) q = h i (omega arith)

  pub above-append : (k l : List ℕ) → Above n k → Above n l → Above n (k ++ l)
  above-append [] l p h = h
  above-append (x ∷ k) l p h =
      above-cons x (k ++ l) (p 0 (omega arith)) (above-append k l (λ i q. p (suc i) (omega arith)) h)

pub above-le : (m n : ℕ) (l : List ℕ) → m ≤ n → Above m l → Above n l
above-le m n l p h i q = omega (arith, h i q)
