-- What is accepted behind a test (specs/Sending, `putting`, `sending_of`).
--     accepted-cond_false, -true    where a test decides between a refusal and another outcome, what is accepted is the
--                                   other
use mathlib.Core.Bool.{Bool, true, false, cond}
use mathlib.Core.List.{List}
use mathlib.Core.Path.{◌≡◌, refl}
use Prim.Native.Nat.{ℕ}
use Rattle.std.specs.Prelude.{Result, Ok, Err}
use Rattle.ground.proofs.CaseLaws.{zero_not_one}
use Rattle.answers.specs.Outcome.{Outcome, leaving}
use Rattle.answers.specs.declared.Refusal.{Refusal}

-- where a test decides between a refusal and another outcome, it is the other that is accepted
pub accepted-cond_false :
    (t : Bool) (r : Refusal) (d : List ℕ) (o : Outcome (Result ℕ Refusal)) {y : ℕ}
    → (cond t (leaving (Err r) d) o).answer ≡ Ok y
    → (t ≡ false) × (o.answer ≡ Ok y)
accepted-cond_false true r d o e = absurd (zero_not_one cc)
accepted-cond_false false r d o e = (refl, e)

pub accepted-cond_true :
    (t : Bool) (r : Refusal) (d : List ℕ) (o : Outcome (Result ℕ Refusal)) {y : ℕ}
    → (cond t o (leaving (Err r) d)).answer ≡ Ok y
    → (t ≡ true) × (o.answer ≡ Ok y)
accepted-cond_true true r d o e = (refl, e)
accepted-cond_true false r d o e = absurd (zero_not_one cc)
