-- Document 01, "No room for a hollow program": any two results that a contract allows coincide.
--     settled            two results that equal the same meaning are equal
--     settled_outcome    so are the answers and the lent memory of two outcomes that equal the same meaning
-- tests/contracts sees to it that every public contract is such an equation; docs/SETTLED.md says how the two together
-- settle each function.
use mathlib.Core.List.{List}
use mathlib.Core.Path.{◌≡◌, ◌∙◌, sym, ap}
use Prim.Native.Nat.{ℕ}
use Rattle.answers.specs.Outcome.{Outcome}

pub settled : {A : Type 0} {m r s : A} → r ≡ m → s ≡ m → r ≡ s
settled p q = p ∙ sym q

pub settled_outcome :
    {A : Type 0} {m : Outcome A} {r s : A} {d e : List ℕ}
    → ◌≡◌ {A = Outcome A} (record { answer = r; memory = d }) m
    → ◌≡◌ {A = Outcome A} (record { answer = s; memory = e }) m → (r ≡ s) × (d ≡ e)
settled_outcome {A} p q =
    (ap (λ (o : Outcome A). o.answer) (settled p q), ap (λ (o : Outcome A). o.memory) (settled p q))
