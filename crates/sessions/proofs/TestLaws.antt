-- Taking a call on a store apart by its tests.
--     cond_refuse    a choice that keeps a store has not taken its refusal
-- Assumes nothing.
use Rattle.std.specs.Prelude.{Result, Ok, Err}
use mathlib.Core.Bool.{Bool, true, false, cond}
use mathlib.Core.Path.{◌≡◌, refl}
use Rattle.answers.specs.declared.Refusal.{Refusal}
use Rattle.sessions.specs.Meters.{Store}

pub cond_refuse :
    (t : Bool) (why : Refusal) (r : Result Store Refusal) {st : Store} → cond t (Err why) r ≡ Ok st
    → (t ≡ false) × (r ≡ Ok st)
cond_refuse true why r h = (cc, cc)
cond_refuse false why r h = (refl, h)
