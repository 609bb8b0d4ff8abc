-- Frames of either format: their size, their first byte, that the content comes back, and that bytes stay bytes.
use mathlib.Core.List.{List, ◌∷◌, ◌++◌}
use mathlib.Core.Path.{◌≡◌, ap, sym, ◌∙◌}
use Prim.Native.Nat.{ℕ, ◌+◌, ◌≤◌}
use native.Mathlib.Numerals.{add-one}
use native.Mathlib.Omega.{arith}
use lib.ListN.{length, drop, length-drop}
use Rattle.ground.specs.Bytes.{Bytes}
use Rattle.ground.proofs.ByteLaws.{bytes-cons, bytes_drop}
use Rattle.blocks.specs.Spans.{framed, payload}
use Rattle.blocks.proofs.SpanByteLaws.{framed_bytes, payload_bytes}
use Rattle.blocks.proofs.SpanLaws.{total, length_framed, length-payload, payload_framed}
use Rattle.blocks.proofs.CutLaws.{total_spans}
use Rattle.blocks.proofs.TurnLaws.{framed_head, payload_head}
use Rattle.frame.specs.declared.Format.{Format}
use Rattle.frame.specs.Formats.{form_of, spans_of, frame_size}
use Rattle.frame.specs.Frames.{frame_of, content_in}
use Rattle.frame.proofs.FormatLaws.{one-lt_first, zero-lt_later, allowed-lt, allowed-length_byte}

module _ (f : Format) where
  pub total-spans_of : (n : ℕ) → total (spans_of f n) ≡ n + 1
  total-spans_of n =
      total_spans (form_of f).first (form_of f).later (n + 1) (omega (arith, one-lt_first f)) (zero-lt_later f)

  pub length_frame_of : (c : List ℕ) → length (frame_of f c) ≡ frame_size f (length c)
  unfolding frame_of frame_size
  length_frame_of c =
      length_framed (spans_of f (length c)) ((form_of f).length_byte (length c) ∷ c)
      (omega (arith, total-spans_of (length c)))

  pub frame_of_length :
      (c : List ℕ) (n : ℕ) → length c ≡ n → frame_of f c ≡ framed (spans_of f n) ((form_of f).length_byte n ∷ c)
  unfolding frame_of
  frame_of_length c n e = rw e

  pub frame_of_cons : (c : List ℕ) → frame_of f c ≡ (form_of f).length_byte (length c) ∷ drop 1 (frame_of f c)
  unfolding frame_of
  frame_of_cons c =
      framed_head (form_of f).first (form_of f).later (length c) (one-lt_first f) (zero-lt_later f)
      ((form_of f).length_byte (length c)) c

  pub payload-cons : (n l : ℕ) (s : List ℕ) → payload (spans_of f n) (l ∷ s) ≡ l ∷ content_in f n (l ∷ s)
  unfolding content_in
  payload-cons n l s = payload_head (form_of f).first (form_of f).later n (one-lt_first f) (zero-lt_later f) l s

  pub content_in_frame_of : (c t : List ℕ) → content_in f (length c) (frame_of f c ++ t) ≡ c
  unfolding frame_of content_in
  content_in_frame_of c t =
      ap (drop 1)
      (payload_framed (spans_of f (length c)) ((form_of f).length_byte (length c) ∷ c) t
      (sym (total-spans_of (length c) ∙ add-one (length c))))

  pub length-content_in : (n : ℕ) (s : List ℕ) → frame_size f n ≤ length s → length (content_in f n s) ≡ n
  unfolding content_in frame_size
  length-content_in n s fits =
      rw (length-drop 1 (payload (spans_of f n) s), length-payload (spans_of f n) s fits, total-spans_of n)
      (omega arith)

  pub frame_of_bytes :
      (c : List ℕ) → (form_of f).shortest ≤ length c → length c ≤ (form_of f).longest → Bytes c → Bytes (frame_of f c)
  unfolding frame_of
  frame_of_bytes c low high b =
      let l = (form_of f).length_byte (length c) in
      framed_bytes (spans_of f (length c)) (l ∷ c)
      (bytes-cons l c (allowed-lt f l (allowed-length_byte f (length c) low high)) b)

  pub content_in_bytes : (n : ℕ) (s : List ℕ) → Bytes s → Bytes (content_in f n s)
  unfolding content_in
  content_in_bytes n s b = bytes_drop 1 (payload (spans_of f n) s) (payload_bytes (spans_of f n) s b)
