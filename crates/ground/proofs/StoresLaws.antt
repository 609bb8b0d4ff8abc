-- Runs of stores one behind another (`sets` of the kit: a list's elements stored one by one from a place on).
--     sets-append    a run and the run behind it are one run
--     sets_then      the same for memory that two calls left one after the other
--     sets_start     a run from the first place: the run, then what stays
use mathlib.Core.List.{List, [], ◌∷◌, ◌++◌}
use mathlib.Core.Path.{◌≡◌, ◌∙◌}
use Prim.Native.Nat.{ℕ, suc, ◌+◌, ◌≤◌}
use native.Mathlib.Nat.{add-zero, zero-add, add-suc, suc-add}
use lib.ListN.{length, set, drop}
use lib.Seq.{sets, sets-eq}

module _ {A : Type 0} where
  pub sets-append : (xs ys l : List A) (k : ℕ) → sets (sets l k xs) (k + length xs) ys ≡ sets l k (xs ++ ys)
  sets-append [] ys l k = rw (add-zero k)
  sets-append (x ∷ xs) ys l k =
      rw (add-suc k (length xs), ← suc-add k (length xs)) (sets-append xs ys (set l k x) (suc k))

  pub sets_then :
      (xs ys l : List A) (k : ℕ) {m n : List A} → m ≡ sets l k xs → n ≡ sets m (k + length xs) ys
      → n ≡ sets l k (xs ++ ys)
  sets_then xs ys l k p q = q ∙ rw p (sets-append xs ys l k)

  pub sets_start : (vs l : List A) → length vs ≤ length l → sets l 0 vs ≡ vs ++ drop (length vs) l
  sets_start vs l h = sets-eq vs l 0 (rw (zero-add (length vs)) h) ∙ rw (zero-add (length vs))
