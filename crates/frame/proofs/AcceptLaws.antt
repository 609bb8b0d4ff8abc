-- A buffer is accepted exactly when it begins with a frame as writing gives it (document 01, demand 2).
--     judge_of_frame       a buffer that begins with the frame of c is accepted, with that frame's size and length
--     size_for_frame       its length byte says so too
--     frame_some          a frame has bytes
--     size_for_some        and so says every allowed length byte
--     WholeFrame f s z n  what an accepted buffer holds, as the walks over spans want it
--     judge_of-accepted    an accepted buffer holds it
--     whole_frame         it then begins with the frame of the content that stands in it
--     judge_exactly       the two directions in one statement
--     frame_unique        no buffer begins with two frames
use mathlib.Core.List.{List, [], ◌∷◌, ◌++◌}
use mathlib.Core.Logic.{◌↔◌}
use mathlib.Core.Path.{◌≡◌, refl, ap, sym, ◌∙◌}
use Prim.Native.Nat.{ℕ, ◌+◌, ◌≤◌, ◌<◌}
use native.Mathlib.Omega.{arith}
use borrow.Author.Tests.{ltb-false}
use lib.Dec.{ltb}
use lib.ListN.{length, take, drop, get_or, replicate, length-append, length-replicate, take-append-drop}
use Rattle.std.specs.Prelude.{Result, Ok, Err, Option, Some, None}
use Rattle.answers.specs.declared.Refusal.{Refusal}
use Rattle.ground.proofs.CaseLaws.{zero_not_one}
use Rattle.blocks.specs.Spans.{payload, first_wrong, size_of}
use Rattle.blocks.proofs.SpanLaws.{first_wrong_framed, framed-payload}
use Rattle.frame.specs.declared.Format.{Format}
use Rattle.frame.specs.declared.Frame.{Frame}
use Rattle.frame.specs.Formats.{form_of, spans_of, frame_size, size_for, sizes}
use Rattle.frame.specs.Frames.{frame_of, content_in, FrameAt}
use Rattle.frame.specs.Judging.{by_checks, by_length, judge_of}
use Rattle.frame.proofs.FormatLaws.{allowed-length_byte, content_length-length_byte}
use Rattle.frame.proofs.FrameLaws.{total-spans_of, length_frame_of, frame_of_length, frame_of_cons, payload-cons, content_in_frame_of, length-content_in}
use Rattle.frame.proofs.JudgeLaws.{sizes_settled, Sized, size_for_accepted, judge_of_whole, cond_refused_then}

-- a frame with any bytes t behind it is accepted
module _ (f : Format) (c t : List ℕ) (low : (form_of f).shortest ≤ length c)
    (high : length c ≤ (form_of f).longest) where
  size_for_frame_of : size_for f (get_or (frame_of f c ++ t) 0 0) ≡ Ok (sizes (frame_size f (length c)) (length c))
  size_for_frame_of =
      rw (
        frame_of_cons f c,
        allowed-length_byte f (length c) low high,
        content_length-length_byte f (length c) low high,
      )

  length_frame_of-append : length (frame_of f c ++ t) ≡ frame_size f (length c) + length t
  length_frame_of-append = rw (length-append (frame_of f c) t, length_frame_of f c)

  frame_of_append_some : 0 < length (frame_of f c ++ t)
  frame_of_append_some = rw (frame_of_cons f c) (omega arith)

  first_wrong_frame_of : first_wrong 1 (spans_of f (length c)) (frame_of f c ++ t) ≡ None
  unfolding frame_of
  first_wrong_frame_of =
      first_wrong_framed 1 (spans_of f (length c)) ((form_of f).length_byte (length c) ∷ c) t
      (omega (arith, total-spans_of f (length c)))

  judge_of_frame_of : judge_of f (frame_of f c ++ t) ≡ Ok (sizes (frame_size f (length c)) (length c))
  unfolding by_checks
  judge_of_frame_of =
      judge_of_whole f (frame_of f c ++ t) frame_of_append_some size_for_frame_of
      (omega (arith, length_frame_of-append))
      ∙ ap (by_checks (frame_size f (length c)) (length c)) first_wrong_frame_of

-- a buffer that begins with a frame is that frame and what is behind it
module _ {f : Format} {s : List ℕ} {z : ℕ} {c : List ℕ} (at : FrameAt f s z c) where
  pub frame_split : s ≡ frame_of f c ++ drop z s
  frame_split = sym (take-append-drop z s) ∙ ap (λ (p : List ℕ). p ++ drop z s) at.bytes

  pub judge_of_frame : judge_of f s ≡ Ok (sizes z (length c))
  judge_of_frame =
      ap (judge_of f) frame_split
      ∙ judge_of_frame_of f c (drop z s) at.low at.high
      ∙ ap (λ (y : ℕ). Ok (sizes y (length c))) (sym at.size)

  pub size_for_frame : size_for f (get_or s 0 0) ≡ Ok (sizes z (length c))
  size_for_frame =
      ap (λ (p : List ℕ). size_for f (get_or p 0 0)) frame_split
      ∙ size_for_frame_of f c (drop z s) at.low at.high
      ∙ ap (λ (y : ℕ). Ok (sizes y (length c))) (sym at.size)

  pub frame_some : 0 < z
  frame_some = omega (arith, at.size, length_frame_of f c, ap length (frame_of_cons f c))

  pub content_in_frame : content_in f (length c) s ≡ c
  content_in_frame = ap (content_in f (length c)) frame_split ∙ content_in_frame_of f c (drop z s)

pub size_for_some : (f : Format) (l : ℕ) {z n : ℕ} → size_for f l ≡ Ok (sizes z n) → 0 < z
size_for_some f l {z} {n} e =
    let c = replicate {A = ℕ} n 0 in
    let count = ap (frame_size f) (length-replicate {A = ℕ} n 0) in
    omega (arith, (size_for_accepted f l e).size, length_frame_of f c, ap length (frame_of_cons f c), count)

pub record WholeFrame (f : Format) (s : List ℕ) (z n : ℕ) : Type 0 where
  pub low : (form_of f).shortest ≤ n
  pub high : n ≤ (form_of f).longest
  pub size : z ≡ frame_size f n
  pub fits : z ≤ length s
  pub right : first_wrong 1 (spans_of f n) s ≡ None
  pub held : payload (spans_of f n) s ≡ (form_of f).length_byte n ∷ content_in f n s

sized_whole :
    {f : Format} {l z n : ℕ} {s : List ℕ} → Sized f l z n → z ≤ length (l ∷ s)
    → first_wrong 1 (spans_of f n) (l ∷ s) ≡ None → WholeFrame f (l ∷ s) z n
sized_whole {f} {l} {n = n} {s = s} p fits right =
    record {
      low = p.low;
      high = p.high;
      size = p.size;
      fits = fits;
      right = right;
      held = rw p.byte (payload-cons f n l s);
    }

by_checks-accepted :
    (y m : ℕ) (w : Option ℕ) {z n : ℕ} → by_checks y m w ≡ Ok (sizes z n)
    → (w ≡ None) × ((y ≡ z) × (m ≡ n))
unfolding by_checks
by_checks-accepted y m None h = (refl, sizes_settled h)
by_checks-accepted y m (Some b) h = (cc, (cc, cc))

by_length-accepted :
    (f : Format) (l : ℕ) (s : List ℕ) {z n : ℕ} (q : Result Frame Refusal) → size_for f l ≡ q
    → by_length f (l ∷ s) q ≡ Ok (sizes z n) → WholeFrame f (l ∷ s) z n
unfolding by_length
by_length-accepted f l s (Ok a) e h =
    let p = cond_refused_then (ltb (length (l ∷ s)) a.size) _ _ h in
    let w = by_checks-accepted a.size a.n (first_wrong 1 (spans_of f a.n) (l ∷ s)) p.1 in
    let whole = sized_whole (size_for_accepted f l e) (ltb-false (length (l ∷ s)) a.size p.0) w.0 in
    rw (w.1.0, w.1.1) at whole
by_length-accepted f l s (Err r) e h = absurd (zero_not_one (cc))

pub judge_of-accepted : (f : Format) (s : List ℕ) {z n : ℕ} → judge_of f s ≡ Ok (sizes z n) → WholeFrame f s z n
unfolding judge_of
judge_of-accepted f [] h = absurd (zero_not_one (cc))
judge_of-accepted f (l ∷ s) h = by_length-accepted f l s (size_for f l) refl h

module _ {f : Format} {s : List ℕ} {z n : ℕ} (w : WholeFrame f s z n) where
  pub whole_room : size_of (spans_of f n) ≤ length s
  unfolding frame_size
  whole_room = rw w.size at w.fits

  pub whole_length : length (content_in f n s) ≡ n
  whole_length = length-content_in f n s (omega (arith, w.size, w.fits))

  whole_bytes : take z s ≡ frame_of f (content_in f n s)
  unfolding frame_size
  whole_bytes =
      rw (frame_of_length f (content_in f n s) n whole_length, ← w.held, w.size)
      (sym (framed-payload 1 (spans_of f n) s whole_room w.right))

  -- the accepted content is the one whose frame stands there
  pub whole_frame : FrameAt f s z (content_in f n s)
  whole_frame =
      record {
        low = rw whole_length w.low;
        high = rw whole_length w.high;
        size = rw whole_length w.size;
        bytes = whole_bytes;
      }

-- accepted with z and n exactly when some content of n bytes has its frame, of z bytes, there
pub judge_exactly :
    (f : Format) (s : List ℕ) (z n : ℕ)
    → (judge_of f s ≡ Ok (sizes z n)) ↔ ((c : List ℕ) × ((length c ≡ n) × FrameAt f s z c))
judge_exactly f s z n = (
  λ h. let w = judge_of-accepted f s h in (content_in f n s, (whole_length w, whole_frame w)),
  λ w. judge_of_frame w.1.1 ∙ ap (λ (m : ℕ). Ok (sizes z m)) w.1.0,
)

pub frame_unique :
    {f : Format} {s : List ℕ} {z y : ℕ} {c d : List ℕ} → FrameAt f s z c → FrameAt f s y d → (z ≡ y) × (c ≡ d)
frame_unique {f} {s} {c = c} {d = d} p q =
    let same = sym (judge_of_frame p) ∙ judge_of_frame q in
    let settled = sizes_settled same in
    (settled.0, sym (content_in_frame p) ∙ ap (λ (k : ℕ). content_in f k s) settled.1 ∙ content_in_frame q)
