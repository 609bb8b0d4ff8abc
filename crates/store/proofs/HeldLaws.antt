-- What an answer was made of: an option that a call turned into a result, and the place where a meter was found.
--     found_place, not_found    a place that was found, or 19
--     or_behind                 the place where it stands, or the one behind the last
--     next_number, used_up      the next number, or 21
-- Assumes nothing.
use Rattle.std.specs.Prelude.{Option, Some, None, Result, Ok, Err}
use Rattle.std.specs.Option.{ok_or, unwrap_or, SomeIff}
use mathlib.Core.Path.{◌≡◌}
use Prim.Native.Nat.{ℕ, ◌<◌, ◌≤◌}
use native.Mathlib.Omega.{arith}
use Rattle.answers.specs.declared.Refusal.{Refusal}
use Rattle.answers.specs.declared.Refusal.TheVariants.{NotHeld, NumbersUsedUp}
use Rattle.store.specs.Inner.{FoundAt}

pub found_place :
    (o : Option ℕ) {n p q : ℕ} → FoundAt o n p → ◌≡◌ {A = Result ℕ Refusal} (Ok q) (ok_or o NotHeld)
    → (q < n) × (q ≡ p)
found_place None at is = absurd (cc)
found_place (Some x) {n} {p} {q} at is = let same : q ≡ x = cc in (omega (arith, at.0), omega (arith, at.1))

pub not_found :
    (o : Option ℕ) {n p : ℕ} {why : Refusal} → FoundAt o n p
    → ◌≡◌ {A = Result ℕ Refusal} (Err why) (ok_or o NotHeld) → (n ≤ p) × (why ≡ NotHeld)
not_found None at is = (omega (arith, at), cc)
not_found (Some x) at is = absurd (cc)

pub or_behind : (o : Option ℕ) (n : ℕ) {p : ℕ} → FoundAt o n p → unwrap_or o n ≡ p
or_behind None n at = at
or_behind (Some x) n at = at.1

pub next_number :
    (o : Option ℕ) {v n : ℕ} {P : Type 0} → SomeIff o P v
    → ◌≡◌ {A = Result ℕ Refusal} (Ok n) (ok_or o NumbersUsedUp) → P × (n ≡ v)
next_number None may is = absurd (cc)
next_number (Some x) may is = (may.0, cc)

pub used_up :
    (o : Option ℕ) (v : ℕ) {why : Refusal} {P : Type 0} → SomeIff o P v
    → ◌≡◌ {A = Result ℕ Refusal} (Err why) (ok_or o NumbersUsedUp) → (P → ⊥) × (why ≡ NumbersUsedUp)
used_up None v may is = (may, cc)
used_up (Some x) v may is = absurd (cc)
