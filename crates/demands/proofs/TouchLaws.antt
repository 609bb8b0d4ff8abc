-- Where a byte of the content stands, which span it is in, and what a change of it touches (specs/Touched).
--     place_in_held     the place of byte j of what the spans hold has that byte
--     place_in_span     it lies in a span, and its check stands where that span ends
--     change_touched   what one accepted change touches
use mathlib.Core.Bool.{Bool, true, false, cond}
use mathlib.Core.List.{List, [], ◌∷◌, ◌++◌, append-nil}
use mathlib.Core.Path.{◌≡◌, refl, sym, ◌∙◌, ap}
use Prim.Native.Nat.{ℕ, suc, ◌+◌, ◌-◌, ◌*◌, ◌/◌, ◌%◌, ◌≤◌, ◌<◌}
use native.Mathlib.Nat.{not-suc-le-zero}
use native.Mathlib.Numerals.{add-one}
use native.Mathlib.Omega.{arith}
use borrow.Author.Tests.{ltb-true, ltb-false, le-leb}
use lib.Dec.{ltb}
use lib.ListN.{length, get_or, take, drop, length-drop, get_or-append}
use lib.Seq.{get_or-append-add, get_or-take, get_or-drop, length-take-le}
use Rattle.std.specs.Prelude.{Ok}
use Rattle.crc.specs.CheckUpdate.{updated_check}
use Rattle.blocks.specs.Spans.{size_of, framed, payload}
use Rattle.blocks.specs.Places.{place_in, check_in, check_at, updated_at}
use Rattle.blocks.proofs.SpanLaws.{total, length_framed, payload_framed}
use Rattle.blocks.proofs.CutLaws.{widest_spans}
use Rattle.blocks.proofs.PlaceLaws.{placed-lt}
use Rattle.frame.specs.declared.Format.{Format}
use Rattle.frame.specs.Formats.{form_of, spans_of, frame_size, sizes}
use Rattle.frame.specs.Frames.{frame_of, content_in}
use Rattle.frame.specs.Judging.{judge_of}
use Rattle.frame.specs.Changes.{changing_of, place_of, check_place_of}
use Rattle.frame.proofs.AcceptLaws.{judge_of-accepted, whole_room, whole_length}
use Rattle.frame.proofs.ChangeLaws.{change_touches}
use Rattle.frame.proofs.FormatLaws.{first-le, later-le}
use Rattle.frame.proofs.FrameLaws.{total-spans_of, frame_of_length}
use Rattle.demands.specs.Touched.{InSpan, Touched}

module _ (k : ℕ) (ks : List ℕ) where
  -- a byte of the first span, or of a later one
  span_here : (j : ℕ) → j < k → InSpan (k ∷ ks) j k
  unfolding size_of
  span_here j h = record { span = 0; among = omega arith; begins = omega arith; before = h; ends = omega arith }

  span_later : {p q : ℕ} → InSpan ks p q → InSpan (k ∷ ks) (k + 2 + p) (k + 2 + q)
  unfolding size_of
  span_later i =
      record {
        span = suc i.span;
        among = omega (arith, i.among);
        begins = omega (arith, i.begins);
        before = omega (arith, i.before);
        ends = omega (arith, i.ends);
      }

pub place_in_span : (ks : List ℕ) (j : ℕ) → j < total ks → InSpan ks (place_in ks j) (check_in ks j)
unfolding place_in check_in total
place_in_span [] j h = absurd (not-suc-le-zero h)
place_in_span (k ∷ ks) j h = by (ltb j k) refl (λ l. place_in_span ks (j - k) (omega arith)) where
  by : (t : Bool) → ltb j k ≡ t → (k ≤ j → InSpan ks (place_in ks (j - k)) (check_in ks (j - k)))
      → InSpan (k ∷ ks) (cond t j (k + 2 + place_in ks (j - k))) (cond t k (k + 2 + check_in ks (j - k)))
  by true e rest = span_here k ks j (ltb-true j k e)
  by false e rest = span_later k ks (rest (ltb-false j k e))

pub place_in_held :
    (ks s : List ℕ) (j : ℕ) → size_of ks ≤ length s → j < total ks
    → get_or s (place_in ks j) 0 ≡ get_or (payload ks s) j 0
unfolding place_in payload total size_of
place_in_held [] s j fits h = absurd (not-suc-le-zero h)
place_in_held (k ∷ ks) s j fits h =
    by (ltb j k) refl
    (λ l. place_in_held ks (drop (k + 2) s) (j - k) (rw (length-drop (k + 2) s) (omega arith)) (omega arith))
  where
    rest : List ℕ
    rest = payload ks (drop (k + 2) s)

    by :
        (t : Bool) → ltb j k ≡ t → (k ≤ j → get_or (drop (k + 2) s) (place_in ks (j - k)) 0 ≡ get_or rest (j - k) 0)
        → get_or s (cond t j (k + 2 + place_in ks (j - k))) 0 ≡ get_or (take k s ++ rest) j 0
    by true e later =
        let l = ltb-true j k e in
        sym (get_or-append (take k s) rest 0 j (rw (length-take-le k s (omega arith)) l) ∙ get_or-take k s j 0 l)
    by false e later =
        let l = ltb-false j k e in
        let size = length-take-le k s (omega arith) in
        let place : length (take k s) + (j - k) ≡ j = omega (arith, size) in
        sym (get_or-drop (k + 2) s (place_in ks (j - k)) 0)
        ∙ (later l ∙ (sym (get_or-append-add (take k s) rest (j - k) 0) ∙ rw place))

div-mod_two : (x : ℕ) → x / 256 * 256 + x % 256 ≡ x
div-mod_two x = omega arith

module _ (f : Format) (s : List ℕ) (z n : ℕ) (e : judge_of f s ≡ Ok (sizes z n)) (k b : ℕ) (there : k < n) where
  abbrev p : ℕ
  p = place_of f n k

  abbrev q : ℕ
  q = check_place_of f n k

  abbrev m : List ℕ
  m = (changing_of f s k b).memory

  inside : k + 1 < total (spans_of f n)
  inside = omega (arith, total-spans_of f n)

  -- L stands before the content
  held : get_or s p 0 ≡ get_or (content_in f n s) k 0
  held =
      let w = judge_of-accepted f s e in
      place_in_held (spans_of f n) s (k + 1) (whole_room w) inside
      ∙ (ap (λ (x : List ℕ). get_or x (k + 1) 0) w.held ∙ rw (add-one k))

  -- so in the frame of any content of that length
  place_held : (x : List ℕ) → length x ≡ n → get_or (frame_of f x) p 0 ≡ get_or x k 0
  unfolding frame_size
  place_held x size =
      let ks = spans_of f n in
      let held = (form_of f).length_byte n ∷ x in
      let whole : frame_of f x
      ≡ framed ks held ++ [] = frame_of_length f x n size ∙ sym (append-nil (framed ks held)) in
      let fits = ap length (frame_of_length f x n size) ∙ length_framed ks held (omega (arith, total-spans_of f n)) in
      place_in_held ks (frame_of f x) (k + 1) (omega (arith, fits, ap length (frame_of_length f x n size))) inside
      ∙ (ap (λ (y : List ℕ). get_or (payload ks y) (k + 1) 0) whole
      ∙ (ap (λ (y : List ℕ). get_or y (k + 1) 0) (payload_framed ks held [] (omega (arith, total-spans_of f n)))
      ∙ rw (add-one k)))

  near : q - (p + 1) ≤ 125
  near =
      let placed = placed-lt (spans_of f n) (k + 1) inside in
      let wide = widest_spans 126 (form_of f).first (form_of f).later (n + 1) (first-le f) (later-le f) in
      omega (arith, placed.near, placed.before, wide)

  -- the two bytes of the new check make the updated one
  checked : check_at m q ≡ updated_check (check_at s q) (get_or s p 0) b (q - (p + 1))
  unfolding updated_at
  checked =
      let t = change_touches f s k b z n e there in
      let same : q - 1 - p ≡ q - (p + 1) = omega arith in
      rw (t.high, t.low, same) (div-mod_two (updated_check (check_at s q) (get_or s p 0) b (q - (p + 1))))

  pub change_touched : Touched f s m (content_in f n s) k b p q
  change_touched =
      let w = judge_of-accepted f s e in
      let t = change_touches f s k b z n e there in
      record {
        in_span = rw (whole_length w) (place_in_span (spans_of f n) (k + 1) inside);
        place = λ x size. place_held x (size ∙ whole_length w);
        held = held;
        byte = t.byte;
        check = rw (le-leb (q - (p + 1)) 125 near, checked);
        others = t.others;
        size = t.size;
      }
