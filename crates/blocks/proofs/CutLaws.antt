-- Cutting bytes into spans, one span at a time.
--     spans_turn     the first span and the spans behind it: what a turn of every walk cites
--     total_spans    the spans hold all bytes
--     widest_spans   no span is wider than the two limits allow
use mathlib.Core.List.{List, [], ◌∷◌}
use mathlib.Core.Path.{◌≡◌, refl, ap, sym}
use Prim.Native.Nat.{ℕ, zero, suc, ◌-◌, ◌≤◌, ◌<◌, min, max}
use native.Mathlib.Nat.{not-suc-le-zero}
use native.Mathlib.Omega.{arith}
use Rattle.blocks.specs.Spans.{cut, spans}
use Rattle.blocks.proofs.SpanLaws.{total}

unfoldable pub widest : List ℕ → ℕ
widest [] = 0
widest (k ∷ ks) = max k (widest ks)

cut-zero : (steps most later : ℕ) → cut steps most later 0 ≡ []
unfolding cut
cut-zero zero most later = refl
cut-zero (suc steps) most later = refl

-- as many steps as bytes are enough: any two such numbers of steps give the same spans
cut_enough :
    (a b most later left : ℕ) → 0 < most → 0 < later → left ≤ a → left ≤ b
    → cut a most later left ≡ cut b most later left
unfolding cut
cut_enough zero b most later zero m l ha hb = sym (cut-zero b most later)
cut_enough zero b most later (suc left) m l ha hb = absurd (not-suc-le-zero ha)
cut_enough (suc a) b most later zero m l ha hb = sym (cut-zero b most later)
cut_enough (suc a) zero most later (suc left) m l ha hb = absurd (not-suc-le-zero hb)
cut_enough (suc a) (suc b) most later (suc left) m l ha hb =
    ap (λ (ks : List ℕ). min most (suc left) ∷ ks)
    (cut_enough a b later later (suc left - most) l l (omega arith) (omega arith))

pub spans_turn :
    (most later left : ℕ) → 0 < most → 0 < later → 0 < left
    → spans most later left ≡ min most left ∷ spans later later (left - min most left)
unfolding cut
spans_turn most later zero m l h = absurd (not-suc-le-zero h)
spans_turn most later (suc left) m l h =
    let e : suc left - min most (suc left) ≡ suc left - most = omega arith in
    rw (e, cut_enough left (suc left - most) later later (suc left - most) l l (omega arith) (omega arith))

total_cut :
    (steps most later left : ℕ) → 0 < most → 0 < later → left ≤ steps → total (cut steps most later left) ≡ left
unfolding cut total
total_cut zero most later zero m l h = refl
total_cut zero most later (suc left) m l h = absurd (not-suc-le-zero h)
total_cut (suc steps) most later zero m l h = refl
total_cut (suc steps) most later (suc left) m l h =
    omega (arith, total_cut steps later later (suc left - most) l l (omega arith))

pub total_spans : (most later t : ℕ) → 0 < most → 0 < later → total (spans most later t) ≡ t
total_spans most later t m l = total_cut t most later t m l (omega arith)

widest_cut : (w steps most later left : ℕ) → most ≤ w → later ≤ w → widest (cut steps most later left) ≤ w
unfolding cut widest
widest_cut w zero most later left m l = omega arith
widest_cut w (suc steps) most later zero m l = omega arith
widest_cut w (suc steps) most later (suc left) m l = omega (arith, widest_cut w steps later later (suc left - most) l l)

pub widest_spans : (w first later t : ℕ) → first ≤ w → later ≤ w → widest (spans first later t) ≤ w
widest_spans w first later t m l = widest_cut w t first later t m l
