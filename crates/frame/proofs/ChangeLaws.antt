-- One change, case by case, and what the definition of a change comes to (document 01, "Changing a byte"):
--     changing_of_refused, -bad-place, -accepted    the buffer is refused; the place is; or neither
--     change_mends      an accepted change is s with the byte in its place and its check updated
--     change_touches    so it touches the byte and the two bytes of the check over it, and the new check follows from
--                       the old check, the old and the new byte and the distance to the span's end alone
--     change_same       setting the value that is there changes nothing
--     change_frame      the buffer then begins with the frame of the changed content, the bytes behind it stay
use mathlib.Core.Bool.{Bool, true, false, cond}
use mathlib.Core.List.{List, ◌∷◌, ◌++◌}
use mathlib.Core.Path.{◌≡◌, refl, ap, sym, ◌∙◌}
use Prim.Native.Nat.{ℕ, ◌+◌, ◌≤◌, ◌<◌}
use native.Mathlib.Numerals.{add-one}
use native.Mathlib.Omega.{arith}
use borrow.Author.Tests.{lt-ltb, le-ltb, ltb-false}
use lib.Dec.{ltb}
use lib.ListN.{get_or, length, take, drop, set, length-set}
use lib.Seq.{set-get_or, take_at, drop_at, set_out}
use Rattle.std.specs.Prelude.{Ok, Err}
use Rattle.answers.specs.declared.Refusal.{Refusal}
use Rattle.answers.proofs.OutcomeLaws.{answer-cond, memory-cond}
use Rattle.blocks.specs.Spans.{payload}
use Rattle.blocks.specs.Places.{mended}
use Rattle.blocks.proofs.PlaceLaws.{placed-lt}
use Rattle.blocks.proofs.MendLaws.{Touches, mended_framed, mended_touches}
use Rattle.frame.specs.declared.Format.{Format}
use Rattle.frame.specs.Formats.{form_of, spans_of, frame_size, sizes}
use Rattle.frame.specs.Frames.{frame_of, content_in, FrameAt}
use Rattle.frame.specs.Judging.{judge_of}
use Rattle.frame.specs.Changes.{set_in, changing_of, place_of, check_place_of}
use Rattle.frame.proofs.FrameLaws.{total-spans_of, length_frame_of, frame_of_length}
use Rattle.frame.proofs.AcceptLaws.{WholeFrame, judge_of-accepted, whole_room, whole_length, judge_of_frame, content_in_frame, frame_split}

-- mending in place is writing the changed content afresh
module _ {f : Format} {s : List ℕ} {z n : ℕ} (w : WholeFrame f s z n) (k b : ℕ) (there : k < n) where
  set-payload : set (payload (spans_of f n) s) (k + 1) b ≡ (form_of f).length_byte n ∷ set (content_in f n s) k b
  set-payload = rw (w.held, add-one k)

  length-set-content_in : length (set (content_in f n s) k b) ≡ n
  length-set-content_in = length-set (content_in f n s) k b ∙ whole_length w

  mended_frame_of :
      mended s (place_of f n k) (check_place_of f n k) b ≡ frame_of f (set (content_in f n s) k b) ++ drop z s
  unfolding frame_size
  mended_frame_of =
      mended_framed 1 (spans_of f n) s (k + 1) b (whole_room w) w.right (omega (arith, total-spans_of f n))
      ∙ rw (set-payload, w.size, frame_of_length f (set (content_in f n s) k b) n length-set-content_in)

  mended_touched : Touches s (mended s (place_of f n k) (check_place_of f n k) b) (place_of f n k)
      (check_place_of f n k) b
  mended_touched =
      let p = placed-lt (spans_of f n) (k + 1) (omega (arith, total-spans_of f n)) in
      mended_touches s (place_of f n k) (check_place_of f n k) b p.before (omega (arith, p.inside, whole_room w))

module _ (f : Format) (s : List ℕ) (k b : ℕ) where
  pub changing_of_refused :
      {r : Refusal} → judge_of f s ≡ Err r
      → changing_of f s k b ≡ record { answer = Err r; memory = s }
  unfolding changing_of set_in
  changing_of_refused e = rw e

  module _ {z n : ℕ} (e : judge_of f s ≡ Ok (sizes z n)) where
    pub changing_of_bad_place :
        n ≤ k → changing_of f s k b ≡ record { answer = Err Refusal.BadPlace; memory = s }
    unfolding changing_of set_in
    changing_of_bad_place h = rw (e, le-ltb k n h)

    pub changing_of-accepted :
        k < n
        → changing_of f s k b
        ≡ record { answer = Ok (sizes z n); memory = frame_of f (set (content_in f n s) k b) ++ drop z s }
    unfolding changing_of set_in
    changing_of-accepted h = rw (e, lt-ltb k n h)

    pub change_mends :
        k < n
        → changing_of f s k b
        ≡ record { answer = Ok (sizes z n); memory = mended s (place_of f n k) (check_place_of f n k) b }
    change_mends h = rw (mended_frame_of (judge_of-accepted f s e) k b h) (changing_of-accepted h)

pub change_touches :
    (f : Format) (s : List ℕ) (k b z n : ℕ) → judge_of f s ≡ Ok (sizes z n) → k < n
    → Touches s (changing_of f s k b).memory (place_of f n k) (check_place_of f n k) b
change_touches f s k b z n e h = rw (change_mends f s k b e h) (mended_touched (judge_of-accepted f s e) k b h)

-- a change of a buffer that begins with a frame: answer and memory, accepted or refused for its place
module _ {f : Format} {s : List ℕ} {z : ℕ} {c : List ℕ} (at : FrameAt f s z c) (k b : ℕ) where
  pub change_answer :
      (changing_of f s k b).answer
      ≡ cond (ltb k (length c)) (Ok (sizes z (length c))) (Err Refusal.BadPlace)
  unfolding changing_of set_in
  change_answer = rw (judge_of_frame at) (answer-cond (ltb k (length c)) _ _)

  changed_or_same :
      (t : Bool) → ltb k (length c) ≡ t
      → cond t (frame_of f (set c k b) ++ drop z s) s ≡ frame_of f (set c k b) ++ drop z s
  changed_or_same true h = refl
  changed_or_same false h =
      frame_split at ∙ ap (λ (d : List ℕ). frame_of f d ++ drop z s) (sym (set_out c k b (ltb-false k (length c) h)))

  pub change_memory : (changing_of f s k b).memory ≡ frame_of f (set c k b) ++ drop z s
  unfolding changing_of set_in
  change_memory =
      rw (judge_of_frame at, content_in_frame at) (memory-cond (ltb k (length c)) _ _ ∙ changed_or_same _ refl)

  length_frame_of-set : length (frame_of f (set c k b)) ≡ z
  length_frame_of-set = length_frame_of f (set c k b) ∙ ap (frame_size f) (length-set c k b) ∙ sym at.size

  change_bytes : take z (changing_of f s k b).memory ≡ frame_of f (set c k b)
  change_bytes = rw change_memory (take_at (frame_of f (set c k b)) (drop z s) z length_frame_of-set)

  pub change_frame : FrameAt f (changing_of f s k b).memory z (set c k b)
  change_frame =
      let e : length (set c k b) ≡ length c = length-set c k b in
      record { low = rw e at.low; high = rw e at.high; size = rw e at.size; bytes = change_bytes }

  pub change_behind : drop z (changing_of f s k b).memory ≡ drop z s
  change_behind = rw change_memory (drop_at (frame_of f (set c k b)) (drop z s) z length_frame_of-set)

-- setting the value that is there is accepted and changes nothing
pub change_same :
    {f : Format} {s : List ℕ} {z : ℕ} {c : List ℕ} → FrameAt f s z c → (k : ℕ) → k < length c
    → changing_of f s k (get_or c k 0) ≡ record { answer = Ok (sizes z (length c)); memory = s }
change_same {f} {s} {z} {c} at k there =
    changing_of-accepted f s k (get_or c k 0) (judge_of_frame at) there
    ∙ ap (λ (m : List ℕ). record { answer = Ok (sizes z (length c)); memory = m })
    (rw (content_in_frame at, set-get_or c k 0) (sym (frame_split at)))
