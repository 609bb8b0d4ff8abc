-- The place of a meter among others.
--     place_of_le, place_of_held, place_of_none, place_of_absent    it is one of them, or as many as they are
--     place_of_there, place_of_is     it stands there, and nowhere else if none stands twice
--     meter_of_place_of, put_place_of  what is held there, and what is put there
--     address_at_lem                    the address of a meter, as it stands in the bytes
--     stands_at, stands_nowhere     the place where it stands, or none
--     found_some, found_none        a place was found, or none
-- Assumes nothing.
use Rattle.std.specs.Prelude.{Option, Some, None}
use Rattle.std.specs.Option.{is_some}
use mathlib.Core.Bool.{Bool, true, false, cond, ◌||◌, true≢false}
use mathlib.Core.List.{List, [], ◌∷◌, ◌++◌}
use mathlib.Core.Path.{◌≡◌, refl, ◌∙◌, ap, sym}
use Prim.Native.Nat.{ℕ, suc, ◌+◌, ◌*◌, ◌<◌, ◌≤◌}
use native.Mathlib.Nat.{lt_of_not-le}
use native.Mathlib.Omega.{arith}
use borrow.Author.Tests.{eqb-true}
use lib.Dec.{eqb}
use lib.ListN.{length, get_or, take, drop}
use lib.Seq.{drop-drop}
use Rattle.address.specs.Keys.{key_at}
use Rattle.sessions.specs.declared.Meter.{Meter}
use Rattle.sessions.specs.Meters.{stranger, meter_of, holds, put}
use Rattle.sessions.specs.StoreFile.{meters_in, unlike}
use Rattle.sessions.proofs.MetersInLaws.{get_or-meters_in, length-meters_in}
use Rattle.sessions.proofs.OnceLaws.{unlike_once, holds_place, place_holds}
use Rattle.store.specs.Inner.{place_of, FoundAt}
use Rattle.store.proofs.IndexLaws.{not_true}
use Rattle.store.proofs.MeterAtLaws.{key_at_drop}

le-cons : (t : Bool) {p n : ℕ} → p ≤ n → cond t 0 (suc p) ≤ suc n
le-cons true low = omega arith
le-cons false low = omega arith

pub place_of_le : (a : ℕ) (ms : List Meter) → place_of a ms ≤ length ms
unfolding place_of
place_of_le a [] = omega arith
place_of_le a (m ∷ ms) = le-cons (eqb m.address a) (place_of_le a ms)

held_cons : (t h : Bool) {p n : ℕ} → (p < n → h ≡ true) → cond t 0 (suc p) < suc n → t || h ≡ true
held_cons true h next low = refl
held_cons false h next low = next (omega arith)

pub place_of_held : (a : ℕ) (ms : List Meter) → place_of a ms < length ms → holds a ms ≡ true
unfolding place_of holds
place_of_held a [] h = absurd (omega arith)
place_of_held a (m ∷ ms) h = held_cons (eqb m.address a) (holds a ms) (place_of_held a ms) h

none-cons : (t h : Bool) {p n : ℕ} → (n ≤ p → h ≡ false) → suc n ≤ cond t 0 (suc p) → t || h ≡ false
none-cons true h next high = absurd (omega arith)
none-cons false h next high = next (omega arith)

pub place_of_none : (a : ℕ) (ms : List Meter) → length ms ≤ place_of a ms → holds a ms ≡ false
unfolding place_of holds
place_of_none a [] h = refl
place_of_none a (m ∷ ms) h = none-cons (eqb m.address a) (holds a ms) (place_of_none a ms) h

pub place_of_absent : (a : ℕ) (ms : List Meter) → holds a ms ≡ false → length ms ≡ place_of a ms
place_of_absent a ms none =
    let high = lt_of_not-le (λ (low : place_of a ms < length ms). true≢false (sym (place_of_held a ms low) ∙ none)) in
    omega (arith, place_of_le a ms, high)

meter-cons :
    (t : Bool) (m : Meter) (ms : List Meter) (p : ℕ) (d : Meter) {x : Meter} →
    x ≡ get_or ms p d →
    cond t m x ≡ get_or (m ∷ ms) (cond t 0 (suc p)) d
meter-cons true m ms p d same = refl
meter-cons false m ms p d same = same

pub meter_of_place_of : (a : ℕ) (ms : List Meter) → meter_of a ms ≡ get_or ms (place_of a ms) (stranger a)
unfolding place_of meter_of
meter_of_place_of a [] = refl
meter_of_place_of a (m ∷ ms) = meter-cons (eqb m.address a) m ms (place_of a ms) (stranger a) (meter_of_place_of a ms)

there-cons :
    (t : Bool) (m : Meter) (ms : List Meter) (p : ℕ) {a : ℕ} {h : Bool} →
    eqb m.address a ≡ t →
    (h ≡ true → (get_or ms p (stranger 0)).address ≡ a) →
    t || h ≡ true →
    (get_or (m ∷ ms) (cond t 0 (suc p)) (stranger 0)).address ≡ a
there-cons true m ms p {a} e next h = eqb-true m.address a e
there-cons false m ms p e next h = next h

abbrev put_at : ℕ → Meter → List Meter → List Meter
put_at p m ms = take p ms ++ (m ∷ drop (suc p) ms)

put-cons :
    (t : Bool) (m x : Meter) (ms : List Meter) (p : ℕ) {fs : List Meter} →
    fs ≡ put_at p m ms →
    cond t (m ∷ ms) (x ∷ fs) ≡ put_at (cond t 0 (suc p)) m (x ∷ ms)
put-cons true m x ms p same = refl
put-cons false m x ms p same = ap (λ (rest : List Meter). x ∷ rest) same

pub put_place_of : (a : ℕ) (m : Meter) (ms : List Meter) → put a m ms ≡ put_at (place_of a ms) m ms
unfolding place_of put
put_place_of a m [] = refl
put_place_of a m (x ∷ ms) = put-cons (eqb x.address a) m x ms (place_of a ms) (put_place_of a m ms)

pub place_of_there : (a : ℕ) (ms : List Meter) → holds a ms ≡ true
    → (get_or ms (place_of a ms) (stranger 0)).address ≡ a
unfolding place_of holds
place_of_there a [] h = absurd (true≢false (sym h))
place_of_there a (m ∷ ms) h = there-cons (eqb m.address a) m ms (place_of a ms) refl (place_of_there a ms) h

pub place_of_is :
    (ms : List Meter) (i : ℕ) → unlike [] ms ≡ true → i < length ms → place_of (get_or ms i (stranger 0)).address ms ≡ i
place_of_is ms i once h =
    let a = (get_or ms i (stranger 0)).address in
    let held = place_holds ms i h in
    let low = lt_of_not-le (λ (high : length ms ≤ place_of a ms). true≢false (sym held ∙ place_of_none a ms high)) in
    (unlike_once ms).0 once (place_of a ms) i low h (place_of_there a ms held)

pub address_at_lem :
    (s : List ℕ) (first count i : ℕ) (d : Meter) →
    i < count →
    (get_or (meters_in count (drop first s)) i d).address ≡ key_at s (first + 20 * i + 1)
address_at_lem s first count i d h =
    rw (get_or-meters_in count (drop first s) i d h, drop-drop (20 * i) first s) (key_at_drop s (first + 20 * i) 1)

pub stands_at :
    (s : List ℕ) (first count i a : ℕ) →
    unlike [] (meters_in count (drop first s)) ≡ true →
    i < count →
    key_at s (first + 20 * i + 1) ≡ a →
    i ≡ place_of a (meters_in count (drop first s))
stands_at s first count i a once low is =
    let ms = meters_in count (drop first s) in
    rw (← is, ← address_at_lem s first count i (stranger 0) low)
    (sym (place_of_is ms i once (rw (length-meters_in count (drop first s)) low)))

pub stands_nowhere :
    (s : List ℕ) (first count a : ℕ) →
    ((j : ℕ) → j < count → key_at s (first + 20 * j + 1) ≡ a → ⊥) →
    count ≡ place_of a (meters_in count (drop first s))
stands_nowhere s first count a none =
    let ms = meters_in count (drop first s) in
    let size = length-meters_in count (drop first s) in
    let absent = not_true (holds a ms) (λ held.
    let p = holds_place a ms held in
    let low : p.at < count = omega (arith, p.inside, size) in
    none p.at low (sym (address_at_lem s first count p.at (stranger 0) low) ∙ p.here)) in
    sym size ∙ place_of_absent a ms absent

pub found_some : (o : Option ℕ) {n p : ℕ} → FoundAt o n p → is_some o ≡ true → p < n
found_some None is some = cc
found_some (Some q) is some = omega (arith, is.0, is.1)

pub found_none : (o : Option ℕ) {n p : ℕ} → FoundAt o n p → is_some o ≡ false → n ≤ p
found_none None is none = omega (arith, is)
found_none (Some q) is none = cc
