-- Where a byte of the payload and the check over it stand.
--     Placed, placed-lt              inside the spans, the byte before its check, no farther from it than a widest span
--                                    is long
--     place_in_here .. size_of_full    one turn of the walk that looks for them: in the span at hand, or behind it
use mathlib.Core.Bool.{Bool, true, false}
use mathlib.Core.List.{List, [], ◌∷◌}
use mathlib.Core.Path.{◌≡◌, refl}
use Prim.Native.Nat.{ℕ, ◌+◌, ◌-◌, ◌≤◌, ◌<◌, min}
use native.Mathlib.Nat.{not-suc-le-zero}
use native.Mathlib.Omega.{arith}
use borrow.Author.Tests.{lt-ltb, le-ltb, ltb-true, ltb-false}
use lib.Dec.{ltb}
use Rattle.blocks.specs.Spans.{size_of, spans}
use Rattle.blocks.specs.Places.{place_in, check_in}
use Rattle.blocks.proofs.SpanLaws.{total}
use Rattle.blocks.proofs.CutLaws.{spans_turn, widest}

pub record Placed (ks : List ℕ) (j : ℕ) : Type 0 where
  pub before : place_in ks j < check_in ks j
  pub inside : check_in ks j + 2 ≤ size_of ks
  pub near : check_in ks j ≤ place_in ks j + widest ks

placed-cons : (k : ℕ) (ks : List ℕ) (j : ℕ) (t : Bool) → ltb j k ≡ t → (k ≤ j → Placed ks (j - k)) → Placed (k ∷ ks) j
unfolding place_in check_in size_of widest
placed-cons k ks j true e rest =
    let h : j < k = ltb-true j k e in
    record { before = rw e h; inside = rw e (omega arith); near = rw e (omega arith) }
placed-cons k ks j false e rest =
    let r = rest (ltb-false j k e) in
    record { before = rw e (omega arith); inside = rw e (omega arith); near = rw e (omega arith) }

pub placed-lt : (ks : List ℕ) (j : ℕ) → j < total ks → Placed ks j
unfolding total
placed-lt [] j h = absurd (not-suc-le-zero h)
placed-lt (k ∷ ks) j h = placed-cons k ks j (ltb j k) refl (λ le. placed-lt ks (j - k) (omega arith))

module _ {most later left i : ℕ} (m : 0 < most) (l : 0 < later) (h : i < left) where
  pub place_in_here : i < most → place_in (spans most later left) i ≡ i
  unfolding place_in
  place_in_here near = rw (spans_turn most later left m l (omega arith), lt-ltb i (min most left) (omega arith))

  pub check_in_here : i < most → check_in (spans most later left) i ≡ min most left
  unfolding check_in
  check_in_here near = rw (spans_turn most later left m l (omega arith), lt-ltb i (min most left) (omega arith))

  -- a byte behind the span at hand: that span is a full one
  spans_full : most ≤ i → spans most later left ≡ most ∷ spans later later (left - most)
  spans_full far =
      let e : min most left ≡ most = omega arith in
      rw e at (spans_turn most later left m l (omega arith))

  pub place_in_turn :
      most ≤ i → place_in (spans most later left) i ≡ most + 2 + place_in (spans later later (left - most)) (i - most)
  unfolding place_in
  place_in_turn far = rw (spans_full far, le-ltb i most far)

  pub check_in_turn :
      most ≤ i → check_in (spans most later left) i ≡ most + 2 + check_in (spans later later (left - most)) (i - most)
  unfolding check_in
  check_in_turn far = rw (spans_full far, le-ltb i most far)

  pub size_of_full : most ≤ i → size_of (spans most later left) ≡ most + 2 + size_of (spans later later (left - most))
  unfolding size_of
  size_of_full far = rw (spans_full far)
