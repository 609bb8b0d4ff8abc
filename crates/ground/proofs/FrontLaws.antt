-- Memory that is filled from its first place on: `p ++ drop i d`, where p are the i elements written over d.
--     front_store     the next element stored
--     front_length    the length stays
use mathlib.Core.Path.{◌≡◌, ap, sym, ◌∙◌}
use mathlib.Core.List.{List, [], ◌∷◌, ◌++◌}
use Prim.Native.Nat.{ℕ, suc, ◌+◌, ◌<◌, ◌≤◌}
use native.Mathlib.Numerals.{add-one}
use native.Mathlib.Omega.{arith}
use lib.ListN.{length, drop, set, length-append, length-drop}
use lib.Seq.{drop-cons, set_at, append_snoc}

module _ {A : Type 0} (p d : List A) (i : ℕ) (filled : length p ≡ i) where
  pub front_store : (x : A) → i < length d → set (p ++ drop i d) i x ≡ (p ++ (x ∷ [])) ++ drop (i + 1) d
  front_store x h =
      ap (λ (r : List A). set (p ++ r) i x) (drop-cons d i x h)
      ∙ (set_at p _ (drop (suc i) d) x i filled ∙ (sym (append_snoc p x (drop (suc i) d)) ∙ rw (add-one i)))

  pub front_length : i ≤ length d → length (p ++ drop i d) ≡ length d
  front_length h = simp (length-append, length-drop) (omega arith)
