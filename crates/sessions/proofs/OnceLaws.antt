-- No meter twice (specs/StoreFile, `unlike`), and the places of a meter.
--     HeldAt a ms            a place of the meter a among ms
--     holds_place, place_holds    a meter is held exactly where it has a place
--     unlike_snoc            one meter more, as a walk from the first to the last has it
--     Once ms                no address stands at two places
--     unlike_once            the test and the words say the same
-- Assumes nothing.
use mathlib.Core.Bool.{Bool, true, false, not, ◌&&◌, ◌||◌, true≢false, or-true, and_assoc, and-true}
use mathlib.Core.List.{List, [], ◌∷◌, ◌++◌, append-nil}
use mathlib.Core.Logic.{◌↔◌, ⊎_elim}
use mathlib.Core.Path.{◌≡◌, refl, ap, sym, ◌∙◌}
use Prim.Native.Nat.{ℕ, zero, suc, ◌<◌, ◌≤◌}
use native.Mathlib.Nat.{eq-or-lt_of_le, lt_of_not-le}
use native.Mathlib.Omega.{arith}
use borrow.Author.Tests.{eqb-true, eq-eqb, not-true}
use lib.Dec.{eqb}
use lib.ListN.{length, get_or, length-append, get_or-append}
use lib.Seq.{append_snoc, get_or-append_seam}
use Rattle.ground.proofs.CaseLaws.{and_left, and_right}
use Rattle.sessions.specs.declared.Meter.{Meter}
use Rattle.sessions.specs.Meters.{stranger, holds}
use Rattle.sessions.specs.StoreFile.{unlike}

pub record HeldAt (a : ℕ) (ms : List Meter) : Type 0 where
  pub at : ℕ
  pub inside : at < length ms
  pub here : (get_or ms at (stranger 0)).address ≡ a

place-cons :
    {a : ℕ} {m : Meter} {ms : List Meter} (t : Bool) → eqb m.address a ≡ t → (holds a ms ≡ true → HeldAt a ms)
    → t || holds a ms ≡ true → HeldAt a (m ∷ ms)
place-cons {a} {m} true e next h = record { at = 0; inside = omega arith; here = eqb-true m.address a e }
place-cons false e next h =
    let p = next h in record { at = suc p.at; inside = omega (arith, p.inside); here = p.here }

pub holds_place : (a : ℕ) (ms : List Meter) → holds a ms ≡ true → HeldAt a ms
unfolding holds
holds_place a [] h = absurd (true≢false (sym h))
holds_place a (m ∷ ms) h = place-cons (eqb m.address a) refl (holds_place a ms) h

pub place_holds : (ms : List Meter) (i : ℕ) → i < length ms → holds (get_or ms i (stranger 0)).address ms ≡ true
unfolding holds
place_holds [] i h = absurd (omega arith)
place_holds (m ∷ ms) zero h = rw (eq-eqb m.address m.address refl)
place_holds (m ∷ ms) (suc i) h =
    rw (place_holds ms i (omega arith)) (or-true (eqb m.address (get_or ms i (stranger 0)).address))

pub unlike_snoc :
    (ms fs : List Meter) (m : Meter) → unlike ms (fs ++ (m ∷ [])) ≡ unlike ms fs && not (holds m.address (ms ++ fs))
unfolding unlike
unlike_snoc ms [] m = rw append-nil (and-true (not (holds m.address ms)))
unlike_snoc ms (f ∷ fs) m =
    rw (unlike_snoc (ms ++ (f ∷ [])) fs m, append_snoc ms f fs)
    (sym (and_assoc (not (holds f.address ms)) (unlike (ms ++ (f ∷ [])) fs) _))

abbrev address_at : List Meter → ℕ → ℕ
address_at ms i = (get_or ms i (stranger 0)).address

abbrev pub Once : List Meter → Type 0
Once ms = (i j : ℕ) → i < length ms → j < length ms → address_at ms i ≡ address_at ms j → i ≡ j

-- the same of two places whose later one is not before n
abbrev Apart : ℕ → List Meter → Type 0
Apart n ms = (i j : ℕ) → i < j → n ≤ j → j < length ms → address_at ms i ≡ address_at ms j → ⊥

module _ (ms : List Meter) (f : Meter) (fs : List Meter) where
  address_at_before : (i : ℕ) → i < length ms → address_at (ms ++ (f ∷ fs)) i ≡ address_at ms i
  address_at_before i h = ap (λ (m : Meter). m.address) (get_or-append ms (f ∷ fs) (stranger 0) i h)

  address_at_seam : address_at (ms ++ (f ∷ fs)) (length ms) ≡ f.address
  address_at_seam = ap (λ (m : Meter). m.address) (get_or-append_seam ms f fs (stranger 0))

  apart_seam :
      holds f.address ms ≡ false → (i : ℕ) → i < length ms → address_at (ms ++ (f ∷ fs)) i ≡ f.address → ⊥
  apart_seam new i h e =
      let held = place_holds ms i h in
      let same : address_at ms i ≡ f.address = sym (address_at_before i h) ∙ e in
      true≢false (sym (rw same at held) ∙ new)

  apart_cons :
      holds f.address ms ≡ false → Apart (suc (length ms)) (ms ++ (f ∷ fs)) → Apart (length ms) (ms ++ (f ∷ fs))
  apart_cons new later i j p q r e =
      ⊎_elim (λ (s : length ms ≡ j). apart_seam new i (omega arith) (e ∙ (rw (← s) address_at_seam)))
      (λ (s : length ms < j). later i j p s r e) (eq-or-lt_of_le q)

unlike_apart : (ms fs : List Meter) → unlike ms fs ≡ true → Apart (length ms) (ms ++ fs)
unfolding unlike
unlike_apart ms [] h = λ i j p q r e. omega (arith, length-append ms [])
unlike_apart ms (f ∷ fs) h =
    let new = not-true _ (and_left _ _ h) in
    let later = unlike_apart (ms ++ (f ∷ [])) fs (and_right (not (holds f.address ms)) _ h) in
    let size : length (ms ++ (f ∷ [])) ≡ suc (length ms) = omega (arith, length-append ms (f ∷ [])) in
    apart_cons ms f fs new (rw (append_snoc ms f fs, size) at later)

holds_new : (ms : List Meter) (f : Meter) (fs : List Meter) → Once (ms ++ (f ∷ fs)) → holds f.address ms ≡ true → ⊥
holds_new ms f fs once h =
    let p = holds_place f.address ms h in
    let same = address_at_before ms f fs p.at p.inside ∙ (p.here ∙ sym (address_at_seam ms f fs)) in
    let size = length-append ms (f ∷ fs) in
    omega (arith, once p.at (length ms) (omega (arith, p.inside, size)) (omega (arith, size)) same, p.inside)

not_of : (t : Bool) → (t ≡ true → ⊥) → not t ≡ true
not_of true h = absurd (h refl)
not_of false h = refl

once_unlike : (ms fs : List Meter) → Once (ms ++ fs) → unlike ms fs ≡ true
unfolding unlike
once_unlike ms [] once = refl
once_unlike ms (f ∷ fs) once =
    rw (not_of (holds f.address ms) (holds_new ms f fs once))
    (once_unlike (ms ++ (f ∷ [])) fs (rw (append_snoc ms f fs) once))

apart_once : (ms : List Meter) → Apart 0 ms → Once ms
apart_once ms apart i j p q e =
    let up : j < suc i = lt_of_not-le (λ (l : i < j). apart i j l (omega arith) q e) in
    let down : i < suc j = lt_of_not-le (λ (l : j < i). apart j i l (omega arith) p (sym e)) in
    omega arith

pub unlike_once : (ms : List Meter) → (unlike [] ms ≡ true) ↔ Once ms
unlike_once ms = (λ h. apart_once ms (unlike_apart [] ms h), once_unlike [] ms)
