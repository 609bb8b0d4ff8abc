-- What a restore makes of each meter (specs/Changes): ms are the store's meters, fs the file's.
--     meter_of-restored_related    what relates a meter to what an entry makes of it relates it to what all of them do
--     meter_of-restored_other      a meter that is not in the file stays
--     meter_of-restored            one that is becomes what its entry makes of it, if no meter stands twice in the file
--     holds-restored              held are those that were, and the file's
-- Assumes nothing.
use mathlib.Core.Bool.{true, false, ◌||◌, true≢false, or-true, or-false}
use mathlib.Core.List.{List, [], ◌∷◌}
use mathlib.Core.Path.{◌≡◌, refl, sym, ◌∙◌}
use Prim.Native.Nat.{ℕ}
use borrow.Author.Tests.{eqb-true, eqb-false}
use lib.Dec.{eqb}
use Rattle.ground.proofs.CaseLaws.{by_test}
use Rattle.sessions.specs.declared.Meter.{Meter}
use Rattle.sessions.specs.Meters.{meter_of, holds, put}
use Rattle.sessions.specs.Changes.{merged, restored}
use Rattle.sessions.specs.StoreFile.{unlike}
use Rattle.sessions.proofs.PutLaws.{meter_of_put, meter_of_put_other, meter_of_put_related, holds_put, holds_put_other}
use Rattle.sessions.proofs.UnlikeLaws.{unlike_first, unlike_rest}

pub meter_of-restored_related :
    (R : Meter → Meter → Type 0) → ((x : Meter) → R x x) → ((x y z : Meter) → R x y → R y z → R x z)
    → ((own m : Meter) → R own (merged own m)) → (b : ℕ) (ms fs : List Meter)
    → R (meter_of b ms) (meter_of b (restored ms fs))
unfolding restored
meter_of-restored_related R same more merges b ms [] = same (meter_of b ms)
meter_of-restored_related R same more merges b ms (m ∷ fs) =
    let own = meter_of m.address ms in
    more _ _ _ (meter_of_put_related R same m.address b (merged own m) ms refl (merges own m))
    (meter_of-restored_related R same more merges b (put m.address (merged own m) ms) fs)

-- the store's meters after one entry of the file, f
abbrev entered : List Meter → Meter → List Meter
entered ms f = put f.address (merged (meter_of f.address ms) f) ms

module _ (a : ℕ) (ms : List Meter) (f : Meter) where
  module _ (e : eqb f.address a ≡ true) where
    meter_of-entered : meter_of a (entered ms f) ≡ merged (meter_of a ms) f
    meter_of-entered = let same : f.address ≡ a = eqb-true _ _ e in rw (← same) (meter_of_put f.address _ refl ms)

    holds-entered : holds a (entered ms f) ≡ true
    holds-entered = let same : f.address ≡ a = eqb-true _ _ e in rw (← same) (holds_put f.address _ refl ms)

  module _ (e : eqb f.address a ≡ false) where
    meter_of-entered_other : meter_of a (entered ms f) ≡ meter_of a ms
    meter_of-entered_other = meter_of_put_other f.address a _ refl (λ d. eqb-false f.address a e (sym d)) ms

    holds-entered_other : holds a (entered ms f) ≡ holds a ms
    holds-entered_other = holds_put_other f.address a _ refl (λ d. eqb-false f.address a e (sym d)) ms

module _ (a : ℕ) where
  pub meter_of-restored_other : (ms fs : List Meter) → holds a fs ≡ false → meter_of a (restored ms fs) ≡ meter_of a ms
  unfolding restored holds
  meter_of-restored_other ms [] h = refl
  meter_of-restored_other ms (f ∷ fs) h =
      by_test (eqb f.address a) (λ e. absurd (true≢false (rw e at h)))
      (λ e. meter_of-restored_other (entered ms f) fs (rw e at h) ∙ meter_of-entered_other a ms f e)

  pub holds-restored : (ms fs : List Meter) → holds a (restored ms fs) ≡ holds a ms || holds a fs
  unfolding restored holds
  holds-restored ms [] = sym (or-false (holds a ms))
  holds-restored ms (f ∷ fs) =
      by_test (eqb f.address a)
      (λ e. rw (holds-restored (entered ms f) fs, holds-entered a ms f e, e) (sym (or-true (holds a ms))))
      (λ e. rw (holds-restored (entered ms f) fs, holds-entered_other a ms f e, e))

  pub meter_of-restored :
      (ms fs : List Meter) → unlike [] fs ≡ true → holds a fs ≡ true
      → meter_of a (restored ms fs) ≡ merged (meter_of a ms) (meter_of a fs)
  unfolding restored holds meter_of
  meter_of-restored ms [] once h = absurd (true≢false (sym h))
  meter_of-restored ms (f ∷ fs) once h =
      by_test (eqb f.address a)
      (λ e. let same : f.address ≡ a = eqb-true _ _ e in
      let none = rw same at (unlike_first f fs once) in
      rw e (meter_of-restored_other (entered ms f) fs none ∙ meter_of-entered a ms f e))
      (λ e. rw (e, ← meter_of-entered_other a ms f e)
      (meter_of-restored (entered ms f) fs (unlike_rest f fs once) (rw e at h)))
