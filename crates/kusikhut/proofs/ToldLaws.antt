-- What is told of calls.
--     shown_tells    an answer told as a row, with the memory that the call left, is the outcome told
--     settled_told, settled_shown    two calls that are told the same have the same number, row and lent memory: what
--                                    the contract of an exported function allows is one outcome (docs/SETTLED.md)
use mathlib.Core.Path.{◌≡◌, refl, ap}
use mathlib.Core.List.{List}
use Prim.Native.Nat.{ℕ}
use Rattle.answers.specs.Outcome.{Outcome}
use Rattle.answers.proofs.Settled.{settled, settled_outcome}
use Rattle.kusikhut.specs.Told.{Told, told, shown, tells}

pub shown_tells :
    {A : Type 0} (f : A → Told ℕ) {a : A} {r : ℕ} {v m : List ℕ} {o : Outcome A}
    → ◌≡◌ {A = Outcome A} (record { answer = a; memory = m }) o → told r v ≡ f a → shown r v m ≡ tells f o
shown_tells f outcome e = rw e (ap (tells f) outcome)

pub settled_told :
    {B : Type 0} {m : Told B} {r s : ℕ} {v w : List B} → told r v ≡ m → told s w ≡ m → (r ≡ s) × (v ≡ w)
settled_told {B} p q = (ap (λ (t : Told B). t.number) (settled p q), ap (λ (t : Told B). t.results) (settled p q))

pub settled_shown :
    {m : Outcome (Told ℕ)} {r s : ℕ} {v w d e : List ℕ}
    → shown r v d ≡ m → shown s w e ≡ m → ((r ≡ s) × (v ≡ w)) × (d ≡ e)
settled_shown p q = (settled_told (settled_outcome p q).0 refl, (settled_outcome p q).1)
