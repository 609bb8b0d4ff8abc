-- The division in place: `Dividing` is its state, with start, turn and end.
-- Assumes nothing.
use Rattle.std.proofs.Common.{List, ◌∷◌, ◌≡◌, refl, sym, ap, ap₂, ◌∙◌, ℕ, ◌+◌, ◌≤◌, ◌<◌, add-one, arith, bit_xor}
use Rattle.std.proofs.Common.{length, get_or, drop, set, drop-cons, drop-drop, get_or-drop}
use Rattle.ground.proofs.InPlaceLaws.{elements, InPlace, in_place_start, in_place_next, in_place_end}
use Rattle.field.specs.Field.{mul}
use Rattle.locators.specs.Inner.{partials, quotient}
use Rattle.locators.proofs.QuotientLaws.{length-partials}

pub record Dividing (r : ℕ) (v : List ℕ) (a : ℕ) (d : List ℕ) (i : ℕ) : Type 0 where
  pub byte : a < 256
  pub made : InPlace (elements (quotient r v)) v d i
  pub rest : drop i (quotient r v) ≡ partials r a (drop i v)

module _ (r : ℕ) (v : List ℕ) where
  pub dividing_start : Dividing r v 0 v 0
  dividing_start = record { byte = omega arith; made = in_place_start _ _; rest = refl }

  module _ {a i p x : ℕ} {d : List ℕ} (c : Dividing r v a d i) (h : i < length v) (is : p ≡ mul a r)
      (there : x ≡ get_or d i 0) where
    abbrev next : ℕ
    next = bit_xor p x

    next_is : next ≡ bit_xor (mul a r) (get_or v i 0)
    next_is = ap₂ bit_xor is (there ∙ c.made.left i (omega arith))

    after : drop i (quotient r v) ≡ next ∷ partials r next (drop (i + 1) v)
    unfolding partials
    after =
        c.rest ∙ ap (partials r a) (drop-cons v i 0 h)
        ∙ ap₂ (λ (y : ℕ) (l : List ℕ). y ∷ partials r y l) (sym next_is) (ap (λ (k : ℕ). drop k v) (sym (add-one i)))

    here : get_or (quotient r v) i 0 ≡ next
    here =
        let e : i ≡ i + 0 = omega arith in
        ap (λ (k : ℕ). get_or (quotient r v) k 0) e ∙ sym (get_or-drop i (quotient r v) 0 0)
        ∙ ap (λ (l : List ℕ). get_or l 0 0) after

    behind : drop (i + 1) (quotient r v) ≡ partials r next (drop (i + 1) v)
    behind = sym (drop-drop 1 i (quotient r v)) ∙ ap (drop 1) after

    pub dividing_next : next < 256 → Dividing r v next (set d i next) (i + 1)
    dividing_next small =
        record { byte = small; made = in_place_next _ _ c.made h (sym here); rest = behind }

  pub dividing_end : {a i : ℕ} {d : List ℕ} → Dividing r v a d i → length v ≤ i → d ≡ quotient r v
  dividing_end c h = in_place_end c.made (length-partials r 0 v) h
