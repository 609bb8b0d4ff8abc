-- A table whose first n numbers are the rows of specs/Rows.
--     are_rows    whether they are: antt works each of them out and compares
--     rows_at     then each of them is
-- Assumes nothing.
use mathlib.Core.Bool.{Bool, true, false, ◌&&◌}
use mathlib.Core.List.{List}
use mathlib.Core.Logic.{◌⊎◌, inl, inr, ⊎_elim}
use mathlib.Core.Path.{◌≡◌, refl}
use Prim.Native.Nat.{ℕ, zero, suc, ◌<◌}
use native.Mathlib.Nat.{not-suc-le-zero}
use native.Mathlib.Omega.{arith}
use borrow.Author.Tests.{eqb-true, eqb-false}
use lib.Dec.{T, eqb, eqb→eq}
use lib.Ieee.Fits.{and_l, and_r}
use lib.ListN.{get_or}
use Rattle.checktable.specs.Rows.{row_of}

same_or_below : (k n : ℕ) → k < suc n → (k ≡ n) ⊎ (k < n)
same_or_below k n h = elim (eqb k n) as (λ t. eqb k n ≡ t → (k ≡ n) ⊎ (k < n)) [
  | true ↦ λ e. inl (eqb-true k n e)
  | false ↦ λ e. inr (omega (arith, eqb-false k n e))
] refl

unfoldable pub are_rows : List ℕ → ℕ → Bool
are_rows t zero = true
are_rows t (suc n) = eqb (get_or t n 0) (row_of n) && are_rows t n

pub rows_at : (t : List ℕ) (n k : ℕ) → T (are_rows t n) → k < n → get_or t k 0 ≡ row_of k
unfolding are_rows
rows_at t zero k rows there = absurd (not-suc-le-zero there)
rows_at t (suc n) k rows there =
    ⊎_elim (λ same. rw same (eqb→eq (get_or t n 0) (row_of n) (and_l _ (are_rows t n) rows)))
    (λ below. rows_at t n k (and_r (eqb (get_or t n 0) (row_of n)) (are_rows t n) rows) below) (same_or_below k n there)
