-- Restores (specs/Changes) that change nothing: ms are the store's meters, fs the file's, in which none stands twice.
--     put_own             putting in what is held
--     restored-settled    nothing changes where every entry makes of its meter what is held
--     restored_again      the same file once more
-- Assumes nothing.
use mathlib.Core.Bool.{true, false, true≢false, or-true}
use mathlib.Core.List.{List, [], ◌∷◌}
use mathlib.Core.Path.{◌≡◌, refl, sym, ap, ◌∙◌}
use Prim.Native.Nat.{ℕ}
use native.Mathlib.Omega.{arith}
use borrow.Author.Tests.{eqb-true, eq-eqb}
use lib.Dec.{eqb}
use Rattle.ground.proofs.CaseLaws.{by_test}
use Rattle.sessions.specs.declared.Meter.{Meter}
use Rattle.sessions.specs.Meters.{meter_of, holds, put}
use Rattle.sessions.specs.Changes.{merged, restored}
use Rattle.sessions.specs.StoreFile.{unlike}
use Rattle.sessions.proofs.RestoreLaws.{meter_of-restored, holds-restored}
use Rattle.sessions.proofs.UnlikeLaws.{unlike_first, unlike_rest}

pub put_own : (a : ℕ) (ms : List Meter) → holds a ms ≡ true → put a (meter_of a ms) ms ≡ ms
unfolding put holds meter_of
put_own a [] h = absurd (true≢false (sym h))
put_own a (x ∷ ms) h =
    by_test (eqb x.address a) (λ e. rw e)
    (λ e. let behind : meter_of a (x ∷ ms) ≡ meter_of a ms = rw e in
    let same : put a (meter_of a (x ∷ ms)) ms ≡ ms =
    ap (λ (m : Meter). put a m ms) behind ∙ put_own a ms (rw e at h) in
    rw e (ap (λ (ys : List Meter). x ∷ ys) same))

-- every entry of the file makes of its meter what is held
abbrev Settled : List Meter → List Meter → Type 0
Settled ms fs =
    (a : ℕ) → holds a fs ≡ true → (holds a ms ≡ true) × (merged (meter_of a ms) (meter_of a fs) ≡ meter_of a ms)

module _ (ms : List Meter) (f : Meter) (fs : List Meter) (s : Settled ms (f ∷ fs)) where
  settled_first : put f.address (merged (meter_of f.address ms) f) ms ≡ ms
  unfolding holds meter_of
  settled_first =
      let p = s f.address (rw (eq-eqb f.address f.address refl)) in
      rw (rw (eq-eqb f.address f.address refl) at p.1) (put_own f.address ms p.0)

  settled_rest : holds f.address fs ≡ false → Settled ms fs
  unfolding holds meter_of
  settled_rest new a h =
      by_test (eqb f.address a)
      (λ e. let same : f.address ≡ a = eqb-true _ _ e in absurd (true≢false (sym h ∙ (rw same at new))))
      (λ e. rw e at (s a (rw e h)))

pub restored-settled : (ms fs : List Meter) → unlike [] fs ≡ true → Settled ms fs → restored ms fs ≡ ms
unfolding restored
restored-settled ms [] once s = refl
restored-settled ms (f ∷ fs) once s =
    rw (settled_first ms f fs s)
    (restored-settled ms fs (unlike_rest f fs once) (settled_rest ms f fs s (unlike_first f fs once)))

merged_again : (own m : Meter) → merged (merged own m) m ≡ merged own m
merged_again own m =
    let e : (merged (merged own m) m).number ≡ (merged own m).number = omega arith in
    rw e

pub restored_again : (ms fs : List Meter) → unlike [] fs ≡ true → restored (restored ms fs) fs ≡ restored ms fs
restored_again ms fs once =
    restored-settled (restored ms fs) fs once
    (λ a h. (
      holds-restored a ms fs ∙ rw h (or-true (holds a ms)),
      rw (meter_of-restored a ms fs once h) (merged_again (meter_of a ms) (meter_of a fs)),
    ))
