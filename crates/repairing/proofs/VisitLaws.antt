-- One place of the scan, as the code goes through it: parts of lists as slices leave them, powers of alpha by their
-- remainders.
--     skipped    the locator is not 0 there
--     again      it is, and so is its quotient
--     moved_on   it is, and its quotient is not
-- Assumes nothing.
use Rattle.std.proofs.Common.{List, ◌++◌, ◌≡◌, refl, sym, ap, ap₂, subst, ◌∙◌, ℕ, ◌+◌, ◌-◌, ◌*◌, ◌%◌, ◌<◌, arith}
use Rattle.std.proofs.Common.{length, take, drop, length-append, length-drop, add-one, take_at, length-take-le}
use Rattle.field.specs.Field.{alpha_to}
use Rattle.field.specs.Polynomials.{value_at}
use Rattle.field.proofs.PowerLaws.{alpha_to-mod}
use Rattle.field.proofs.StepLaws.{step_to}
use Rattle.locators.specs.Inner.{quotient}
use Rattle.locators.proofs.QuotientLaws.{length-partials}
use Rattle.repairing.specs.Inner.{added, Followed, Tells, Going, Ready, Moves}
use Rattle.repairing.proofs.GoingLaws.{at, going_skip, going_again, going_on}

module _ {w v : List ℕ} {d p : ℕ} (ready : Ready w v d p) where
  -- the locator of the place, as the code has it
  abbrev x : ℕ
  x = alpha_to (11 * p % 255)

  x_is : x ≡ step_to p
  x_is = sym (alpha_to-mod (11 * p))

  value_is : {r : ℕ} → r ≡ value_at x (take (d + 1) v) → r ≡ at v d p
  value_is told =
      told ∙ ap₂ (λ (y n : ℕ). value_at y (take n v)) x_is (add-one d)

  inside : {s : List ℕ} (u : List ℕ) → Going u w s v d p → p + 1 < length u
  inside u g = omega (arith, ready.inside, g.word.count)

  pub skipped : {s : List ℕ} {r : ℕ} → r ≡ value_at x (take (d + 1) v) → (r ≡ 0 → ⊥)
      → Moves w s v d p w s v d (p + 1)
  skipped told other =
      record {
        count = refl;
        less = omega (arith, ready.inside);
        goes = λ u g. going_skip g (inside u g) (λ z. other (value_is told ∙ z));
      }

  module _ {r y : ℕ} {q v' : List ℕ} (told : r ≡ value_at x (take (d + 1) v)) (none : r ≡ 0)
      (divided : q ≡ quotient x (take d v)) (made : v' ≡ q ++ drop d v)
      (second : y ≡ value_at x (take d v')) where
    zero_here : at v d p ≡ 0
    zero_here = sym (value_is told) ∙ none

    abbrev left : List ℕ
    left = quotient (step_to p) (take d v)

    made_is : v' ≡ left ++ drop d v
    made_is =
        made ∙ ap (λ (l : List ℕ). l ++ drop d v) (divided ∙ ap (λ (z : ℕ). quotient z (take d v)) x_is)

    count_left : length left ≡ d
    count_left = length-partials (step_to p) 0 (take d v) ∙ length-take-le d v (omega (arith, ready.room))

    front : take d v' ≡ left
    front = ap (take d) made_is ∙ take_at left (drop d v) d count_left

    second_is : y ≡ value_at (step_to p) left
    second_is = second ∙ ap₂ value_at x_is front

    count_made : length v' ≡ length v
    count_made =
        let e : length left + length (drop d v) ≡ length v = omega (arith, count_left, length-drop d v, ready.room) in
        ap length made_is ∙ length-append left (drop d v) ∙ e

    pub again : {s : List ℕ} → y ≡ 0 → Moves w s v d p w s v' (d - 1) p
    again z =
        record {
          count = count_made;
          less = omega (arith, ready.some);
          goes = λ u g. going_again g zero_here ready.some made_is (sym second_is ∙ z);
        }

    goes_on : {e : ℕ} {s w' s' : List ℕ} → 0 < y → y < 256 → Tells s (take d v') y p e
        → w' ≡ added w (length w - 1 - p) e → Followed s p e s'
        → (u : List ℕ) → Going u w s v d p → Going u w' s' v' (d - 1) (p + 1)
    goes_on {e} {s} pos small tells mended follow u g =
        going_on g zero_here ready.some made_is (inside u g) pos small second_is
        (subst (λ (l : List ℕ). Tells s l y p e) front tells) follow mended

    pub moved_on : {e : ℕ} {s w' s' : List ℕ} → 0 < y → y < 256 → Tells s (take d v') y p e
        → w' ≡ added w (length w - 1 - p) e → Followed s p e s' → Moves w s v d p w' s' v' (d - 1) (p + 1)
    moved_on pos small tells mended follow =
        record {
          count = count_made;
          less = omega (arith, ready.some, ready.inside);
          goes = goes_on pos small tells mended follow;
        }
