-- Outcomes that a test chooses: the answer and the memory are then chosen by the same test.
use mathlib.Core.Bool.{Bool, true, false, cond}
use mathlib.Core.Path.{◌≡◌, refl}
use Rattle.answers.specs.Outcome.{Outcome}

module _ {A : Type 0} where
  pub answer-cond : (t : Bool) (x y : Outcome A) → (cond t x y).answer ≡ cond t x.answer y.answer
  answer-cond true x y = refl
  answer-cond false x y = refl

  pub memory-cond : (t : Bool) (x y : Outcome A) → (cond t x y).memory ≡ cond t x.memory y.memory
  memory-cond true x y = refl
  memory-cond false x y = refl
