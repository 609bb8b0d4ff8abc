-- A list made over in place, from its first element on: the invariant of such a loop, with its start, turn and end.
--     InPlace f v d k    d has f's numbers before place k, and the elements of v from there on
--     elements t         the elements of a list, as such numbers
-- Assumes nothing.
use mathlib.Core.List.{List}
use mathlib.Core.Logic.{⊎_elim}
use mathlib.Core.Path.{◌≡◌, refl, sym, ap, ◌∙◌}
use Prim.Native.Nat.{ℕ, ◌+◌, ◌≤◌, ◌<◌}
use native.Mathlib.Nat.{eq-or-lt_of_le}
use native.Mathlib.Omega.{arith}
use lib.ListN.{length, get_or, set, length-set}
use lib.Seq.{get_or-set_same, get_or-set_other, ext_get_or}

abbrev pub elements : List ℕ → ℕ → ℕ
elements t j = get_or t j 0

pub record InPlace (f : ℕ → ℕ) (v d : List ℕ) (k : ℕ) : Type 0 where
  pub count : length d ≡ length v
  pub done : (j : ℕ) → j < k → get_or d j 0 ≡ f j
  pub left : (j : ℕ) → k ≤ j → get_or d j 0 ≡ get_or v j 0

module _ (f : ℕ → ℕ) (v : List ℕ) where
  pub in_place_start : InPlace f v v 0
  in_place_start = record { count = refl; done = λ j h. absurd (omega arith); left = λ j h. refl }

  module _ {d : List ℕ} {k : ℕ} (p : InPlace f v d k) where
    pub in_place_next : {x : ℕ} → k < length v → x ≡ f k → InPlace f v (set d k x) (k + 1)
    in_place_next {x} h is =
        record {
          count = length-set d k x ∙ p.count;
          done = λ j low.
              ⊎_elim
              (λ e. ap (λ (i : ℕ). get_or (set d k x) i 0) e ∙ get_or-set_same d k x 0 (omega (arith, p.count)) ∙ is
              ∙ ap f (sym e))
              (λ l. get_or-set_other d k j x 0 (λ e. omega arith) ∙ p.done j l)
              (eq-or-lt_of_le {n = j} {m = k} (omega arith));
          left = λ j high. get_or-set_other d k j x 0 (λ e. omega arith) ∙ p.left j (omega arith);
        }

pub in_place_end : {t v d : List ℕ} {k : ℕ} → InPlace (elements t) v d k → length t ≡ length v → length v ≤ k → d ≡ t
in_place_end {t} {v} {d} p same h =
    ext_get_or 0 d t (p.count ∙ sym same) (λ j low. p.done j (omega (arith, p.count)))
