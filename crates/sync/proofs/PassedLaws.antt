-- The count of places before the first at which a test f holds (specs/SyncSearch).
--     Missed f k m              f holds at none of the m places from k on
--     missed-add                a run of places, and a second run behind it
--     passed_stands, -misses    f holds at the place where the count stops short, and at none that it passed over
--     passed_first, -none       the count is settled by these two
--     passed_same               it goes by what f says at these places, wherever they stand
use mathlib.Core.Bool.{Bool, true, false}
use mathlib.Core.Path.{◌≡◌, refl}
use Prim.Native.Nat.{ℕ, zero, suc, ◌+◌, ◌-◌, ◌≤◌, ◌<◌}
use native.Mathlib.Nat.{add-zero, not-suc-le-zero}
use native.Mathlib.Omega.{arith}
use borrow.Author.Tests.{ltb-true, ltb-false}
use lib.Dec.{ltb}
use Rattle.ground.proofs.CaseLaws.{by_test}
use Rattle.sync.specs.SyncSearch.{passed}

abbrev pub Missed : (ℕ → Bool) → ℕ → ℕ → Type 0
Missed f k m = (j : ℕ) → j < m → f (k + j) ≡ false

suc-add-suc : (k j : ℕ) → suc k + j ≡ k + suc j
suc-add-suc k j = omega arith

module _ (f : ℕ → Bool) where
  missed-cons : (k m : ℕ) → f k ≡ false → Missed f (suc k) m → Missed f k (suc m)
  missed-cons k m e rest zero h = rw add-zero e
  missed-cons k m e rest (suc j) h = rw (← suc-add-suc k j) (rest j (omega arith))

  missed_tail : (k m : ℕ) → Missed f k (suc m) → Missed f (suc k) m
  missed_tail k m miss j h = rw (suc-add-suc k j) (miss (suc j) (omega arith))

  missed_head : (k m : ℕ) → Missed f k (suc m) → f k ≡ false
  missed_head k m miss = rw add-zero at (miss 0 (omega arith))

  pub missed-add : (k a b : ℕ) → Missed f k a → Missed f (k + a) b → Missed f k (a + b)
  missed-add k a b first rest j l =
      by_test (ltb j a) (λ e. first j (ltb-true j a e))
      (λ e.
      let past : a ≤ j = ltb-false j a e in
      let place : k + j ≡ k + a + (j - a) = omega arith in
      rw place (rest (j - a) (omega arith)))

  -- it stopped before the end: there f holds
  pub passed_stands : (k m : ℕ) → passed f k m < m → f (k + passed f k m) ≡ true
  unfolding passed
  passed_stands k zero h = absurd (not-suc-le-zero h)
  passed_stands k (suc m) h =
      by_test (f k) (λ e. rw (e, add-zero) e)
      (λ e.
      let less : passed f (suc k) m < m = omega (arith, rw e at h) in
      rw (e, ← suc-add-suc k (passed f (suc k) m)) (passed_stands (suc k) m less))

  pub passed_misses : (k m : ℕ) → Missed f k (passed f k m)
  unfolding passed
  passed_misses k zero j h = absurd (not-suc-le-zero h)
  passed_misses k (suc m) j h =
      by_test (f k) (λ e. absurd (not-suc-le-zero (rw e at h)))
      (λ e. missed-cons k (passed f (suc k) m) e (passed_misses (suc k) m) j (rw e at h))

  -- f holds i places on and nowhere before: i places are passed over
  pub passed_first : (k m i : ℕ) → i < m → f (k + i) ≡ true → Missed f k i → passed f k m ≡ i
  unfolding passed
  passed_first k zero i h e miss = absurd (not-suc-le-zero h)
  passed_first k (suc m) zero h e miss = rw (rw add-zero at e)
  passed_first k (suc m) (suc i) h e miss =
      let rest = passed_first (suc k) m i (omega arith) (rw (suc-add-suc k i) e) (missed_tail k i miss) in
      rw (missed_head k i miss, rest)

  -- it holds at none of them: all are passed over
  pub passed_none : (k m : ℕ) → Missed f k m → passed f k m ≡ m
  unfolding passed
  passed_none k zero miss = refl
  passed_none k (suc m) miss = rw (missed_head k m miss, passed_none (suc k) m (missed_tail k m miss))

pub passed_same : (f g : ℕ → Bool) (k l m : ℕ) → ((j : ℕ) → j < m → f (k + j) ≡ g (l + j)) → passed f k m ≡ passed g l m
unfolding passed
passed_same f g k l zero same = refl
passed_same f g k l (suc m) same =
    let here : f k ≡ g l = rw (add-zero k, add-zero l) at (same 0 (omega arith)) in
    let later : (j : ℕ) → j < m → f (suc k + j) ≡ g (suc l + j) =
    λ j h. rw (suc-add-suc k j, suc-add-suc l j) (same (suc j) (omega arith)) in
    rw (here, passed_same f g (suc k) (suc l) m later)
