-- `repairing::values::values` meets its contract. Assumes nothing.
use Rattle.std.proofs.Common.{◌≡◌, ◌∙◌, ℕ, zero, suc, ◌+◌, ◌*◌, ◌%◌, ◌<◌, List, ap, arith, get_or, rules, subst, sym}
use Rattle.std.specs.Array.{IsFromFnResultFrom}
use denote.Param.Members.{Mut, Called}
use Rattle.field.specs.Field.{alpha_to}
use Rattle.field.specs.Polynomials.{value_at}
use Rattle.repairing.proofs.ValueLaws.{root_power}
use Rattle.repairing.proofs.values.values.Goals as goal

-- what holds of each number and what a call at it gives, for a closure that no call changes, holds of each element
module _ {F : Type 0} (g : Mut F (ℕ × Unit {0}) ℕ) (P : ℕ → ℕ → Type 0) (f : F)
    (gives : (i y : ℕ) (q : F) → Called g f (i, tt) y q → P i y × (q ≡ f)) where
  each_at : (ys : List ℕ) (i n : ℕ) → IsFromFnResultFrom g f ys i n → (k j : ℕ) → k < n → j ≡ i + k
      → P j (get_or ys j 0)
  each_at ys i zero made k j h is = absurd (omega arith)
  each_at ys i (suc n) (q, y, at, call, made) zero j h is =
      let e : i ≡ j = omega arith in
      subst (λ (m : ℕ). P m (get_or ys m 0)) e (subst (P i) (sym (at.1 0)) (gives i y q call).0)
  each_at ys i (suc n) (q, y, at, call, made) (suc k) j h is =
      each_at ys (i + 1) n (subst (λ (p : F). IsFromFnResultFrom g p ys (i + 1) n) (gives i y q call).1 made) k j
      (omega arith) (omega arith)

pub returns : goal.returns
returns c =
    let rest = c.args.rest.now in
    record {
      count = c.from_fn.ensures.items.long;
      values = λ k h.
          each_at _ (λ j y. y ≡ value_at (alpha_to ((1232 + 11 * j) % 255)) rest) _
          (λ i y q call. (search rules, search rules)) c.from_fn.result 0 32 c.from_fn.ensures.items.each k k h
          (omega arith)
          ∙ ap (λ (r : ℕ). value_at r rest) (root_power k);
    }
