-- A list behind a front part.
--     set-append-add    a store behind the front part is one in the list behind it
use mathlib.Core.List.{List, [], ◌∷◌, ◌++◌}
use mathlib.Core.Path.{◌≡◌, ap}
use Prim.Native.Nat.{ℕ, ◌+◌}
use native.Mathlib.Nat.{zero-add, suc-add}
use lib.ListN.{length, set}

pub set-append-add : {A : Type 0} (xs ys : List A) (n : ℕ) (a : A) → set (xs ++ ys) (length xs + n) a ≡ xs ++ set ys n a
set-append-add [] ys n a = rw (zero-add n)
set-append-add {A} (x ∷ xs) ys n a =
    rw (suc-add (length xs) n) (ap {B = List A} (λ (l : List A). x ∷ l) (set-append-add xs ys n a))
