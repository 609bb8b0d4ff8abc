-- A list of meters none of which stands twice (specs/StoreFile, unlike).
--     holds-append    a meter among two lists one behind the other
--     unlike_first    the first of them is not among the rest
--     unlike_rest     and none of the rest stands twice
-- Assumes nothing.
use mathlib.Core.Bool.{Bool, true, false, not, ◌||◌, true≢false, or_assoc}
use mathlib.Core.List.{List, [], ◌∷◌, ◌++◌, append_assoc}
use mathlib.Core.Path.{◌≡◌, refl, sym, ◌∙◌}
use Prim.Native.Nat.{ℕ}
use borrow.Author.Tests.{eqb-true, eq-eqb, not-true}
use lib.Dec.{eqb}
use Rattle.ground.proofs.CaseLaws.{by_test, and_left, and_right}
use Rattle.sessions.specs.declared.Meter.{Meter}
use Rattle.sessions.specs.Meters.{holds}
use Rattle.sessions.specs.StoreFile.{unlike}

pub holds-append : (a : ℕ) (ms fs : List Meter) → holds a (ms ++ fs) ≡ holds a ms || holds a fs
unfolding holds
holds-append a [] fs = refl
holds-append a (x ∷ ms) fs = rw (holds-append a ms fs) (sym (or_assoc (eqb x.address a) (holds a ms) (holds a fs)))

module _ (ms : List Meter) (f : Meter) (fs : List Meter) (h : unlike ms (f ∷ fs) ≡ true) where
  unlike_new : holds f.address ms ≡ false
  unfolding unlike
  unlike_new = not-true _ (and_left (not (holds f.address ms)) (unlike (ms ++ (f ∷ [])) fs) h)

  unlike_later : unlike (ms ++ (f ∷ [])) fs ≡ true
  unfolding unlike
  unlike_later = and_right (not (holds f.address ms)) (unlike (ms ++ (f ∷ [])) fs) h

-- what stands before fs is not among fs
unlike_before : (a : ℕ) (ms fs : List Meter) → unlike ms fs ≡ true → holds a ms ≡ true → holds a fs ≡ false
unfolding holds
unlike_before a ms [] h k = refl
unlike_before a ms (f ∷ fs) h k =
    by_test (eqb f.address a)
    (λ e. let same : f.address ≡ a = eqb-true _ _ e in
    absurd (true≢false (sym k ∙ (rw same at (unlike_new ms f fs h)))))
    (λ e. rw e (unlike_before a (ms ++ (f ∷ [])) fs (unlike_later ms f fs h) (rw (holds-append a ms (f ∷ []), k))))

or_right : (t u : Bool) → t || u ≡ false → u ≡ false
or_right true u h = absurd (true≢false h)
or_right false u h = h

-- what stands behind others stands without them
unlike_behind : (ps ms fs : List Meter) → unlike (ps ++ ms) fs ≡ true → unlike ms fs ≡ true
unfolding unlike
unlike_behind ps ms [] h = refl
unlike_behind ps ms (f ∷ fs) h =
    let new = sym (holds-append f.address ps ms) ∙ unlike_new (ps ++ ms) f fs h in
    rw (or_right (holds f.address ps) (holds f.address ms) new)
    (unlike_behind ps (ms ++ (f ∷ [])) fs (rw (append_assoc ps ms (f ∷ [])) at (unlike_later (ps ++ ms) f fs h)))

module _ (m : Meter) (ms : List Meter) (h : unlike [] (m ∷ ms) ≡ true) where
  pub unlike_first : holds m.address ms ≡ false
  unfolding holds
  unlike_first =
      unlike_before m.address (m ∷ []) ms (unlike_later [] m ms h) (rw (eq-eqb m.address m.address refl))

  pub unlike_rest : unlike [] ms ≡ true
  unlike_rest = unlike_behind (m ∷ []) [] ms (unlike_later [] m ms h)
