-- The run of code words before the first that is none (specs/Decoding, `good_run`), for any words f.
--     good_run_good, good_run_bad    one word more, after a run without a break
--     good_run_stays                once broken, the run stays as it is
--     good_run_shift                the run from word a on, where all before it are code words
--     good_run-all                  in an unbroken run every word is a code word
--     good_run_whole                where every word is a code word, the run is unbroken
use mathlib.Core.Path.{◌≡◌, refl}
use mathlib.Core.Bool.{Bool, true, false, cond}
use mathlib.Core.Logic.{⊎_elim}
use Prim.Native.Nat.{ℕ, zero, suc, ◌+◌, ◌<◌, ◌≤◌}
use native.Mathlib.Nat.{add-zero, add-suc, not-suc-le-zero, le_of_suc-le-suc, eq-or-lt_of_le}
use native.Mathlib.Omega.{arith}
use borrow.Author.Tests.{eqb-true, eqb-false, eq-eqb, ne_eqb}
use lib.Dec.{eqb}
use Rattle.std.specs.Prelude.{Option, Some, None}
use Rattle.line.specs.Decoding.{good_run, is_word}

-- one word more, where a words stand before the run g of b words
added : (a b g : ℕ) (u t : Bool) → eqb g b ≡ t
    → cond (eqb (a + g) (a + b)) (cond u (suc (a + b)) (a + b)) (a + g) ≡ a + cond t (cond u (suc b) b) g
added a b g true true e = rw (eq-eqb (a + g) (a + b) (omega (arith, eqb-true g b e))) (omega arith)
added a b g false true e = rw (eq-eqb (a + g) (a + b) (omega (arith, eqb-true g b e)))
added a b g u false e = rw (ne_eqb (a + g) (a + b) (λ s. eqb-false g b e (omega arith)))

-- the run g of m words grew with word m, which is a code word if u
unbroken : (m g : ℕ) (t : Bool) → eqb g m ≡ t → (u : Bool) {w : Bool} → w ≡ u → g ≤ m
    → cond t (cond u (suc m) m) g ≡ suc m → (g ≡ m) × (w ≡ true)
unbroken m g true e true word le h = (eqb-true g m e, word)
unbroken m g true e false word le h = absurd (omega arith)
unbroken m g false e u word le h = absurd (omega arith)

module _ (f : ℕ → Option ℕ) where
  pub good_run-le : (m : ℕ) → good_run f m ≤ m
  unfolding good_run
  good_run-le zero = omega arith
  good_run-le (suc m) = by (eqb (good_run f m) m) (is_word (f m)) (good_run-le m) where
    by : (t u : Bool) → good_run f m ≤ m → cond t (cond u (suc m) m) (good_run f m) ≤ suc m
    by true true h = omega arith
    by true false h = omega arith
    by false u h = omega arith

  pub good_run_good : (m x : ℕ) → good_run f m ≡ m → f m ≡ Some x → good_run f (suc m) ≡ suc m
  unfolding good_run
  good_run_good m x run word = rw (eq-eqb (good_run f m) m run, word)

  pub good_run_bad : (m : ℕ) → good_run f m ≡ m → f m ≡ None → good_run f (suc m) ≡ m
  unfolding good_run
  good_run_bad m run word = rw (eq-eqb (good_run f m) m run, word)

  pub good_run_stays : (i k b : ℕ) → good_run f k ≡ i → i < k → good_run f (k + b) ≡ i
  unfolding good_run
  good_run_stays i k zero run lt = rw add-zero run
  good_run_stays i k (suc b) run lt =
      let ih : good_run f (k + b) ≡ i = good_run_stays i k b run lt in
      rw (add-suc, ne_eqb (good_run f (k + b)) (k + b) (λ e. omega arith)) ih

  pub good_run_shift : (a b : ℕ) → good_run f a ≡ a → good_run f (a + b) ≡ a + good_run (λ k. f (a + k)) b
  unfolding good_run
  good_run_shift a zero run = rw add-zero (omega arith)
  good_run_shift a (suc b) run =
      let ih : good_run f (a + b) ≡ a + good_run (λ k. f (a + k)) b = good_run_shift a b run in
      let g : ℕ = good_run (λ k. f (a + k)) b in
      rw (add-suc, ih) (added a b g (is_word (f (a + b))) (eqb g b) refl)

  -- an unbroken run of m + 1 words was so at m, and its last word is a code word
  good_run-suc : (m : ℕ) → good_run f (suc m) ≡ suc m → (good_run f m ≡ m) × (is_word (f m) ≡ true)
  unfolding good_run
  good_run-suc m run = unbroken m (good_run f m) (eqb (good_run f m) m) refl (is_word (f m)) refl (good_run-le m) run

  pub good_run-all : (m : ℕ) → good_run f m ≡ m → (i : ℕ) → i < m → is_word (f i) ≡ true
  good_run-all zero run i h = absurd (not-suc-le-zero h)
  good_run-all (suc m) run i h =
      let step : (good_run f m ≡ m) × (is_word (f m) ≡ true) = good_run-suc m run in
      ⊎_elim (λ e. rw e step.1) (λ lt. good_run-all m step.0 i lt) (eq-or-lt_of_le (le_of_suc-le-suc h))

  pub good_run_whole : (m : ℕ) → ((i : ℕ) → i < m → is_word (f i) ≡ true) → good_run f m ≡ m
  unfolding good_run
  good_run_whole zero all = refl
  good_run_whole (suc m) all =
      let ih : good_run f m ≡ m = good_run_whole m (λ i h. all i (omega arith)) in
      rw (eq-eqb (good_run f m) m ih, all m (omega arith))

pub good_run_same : (f g : ℕ → Option ℕ) (m : ℕ) → ((i : ℕ) → i < m → f i ≡ g i) → good_run f m ≡ good_run g m
unfolding good_run
good_run_same f g zero same = refl
good_run_same f g (suc m) same =
    let ih : good_run f m ≡ good_run g m = good_run_same f g m (λ i h. same i (omega arith)) in
    rw (ih, same m (omega arith))
