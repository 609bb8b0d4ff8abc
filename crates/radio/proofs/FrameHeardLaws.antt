-- A frame behind its sync chips (specs/Receiving, `frame_after`): accepted exactly where its content's code words
-- stand.
--     frame_after_coded    where they stand and there is room for the content, it is handed over
--     coded_read          and where the bytes that were decoded are a frame, its content's code words stand there
use Rattle.std.specs.Prelude.{Result, Ok}
use Rattle.answers.specs.declared.Refusal.{Refusal}
use mathlib.Core.List.{List, [], ◌++◌, append-nil}
use mathlib.Core.Path.{◌≡◌, refl, ap, sym, ◌∙◌}
use Prim.Native.Nat.{ℕ, ◌+◌, ◌≤◌, ◌<◌}
use native.Mathlib.Omega.{arith}
use lib.ListN.{length, drop, get_or, length-take}
use lib.Seq.{take_all}
use Rattle.answers.specs.Outcome.{Outcome}
use Rattle.ground.specs.Bytes.{Bytes}
use Rattle.chips.specs.Chips.{room_limit}
use Rattle.line.specs.Decoding.{decoding}
use Rattle.line.proofs.CodeLaws.{lawful}
use Rattle.line.proofs.TripLaws.{good_run_encode, decode_encode, encode_decode, length-decoding}
use Rattle.frame.specs.declared.Format.{Format}
use Rattle.frame.specs.declared.Frame.{Frame}
use Rattle.frame.specs.Formats.{sizes, form_of, frame_size, size_for}
use Rattle.frame.specs.Frames.{frame_of, FrameAt}
use Rattle.frame.specs.Reads.{reading_of}
use Rattle.frame.proofs.AcceptLaws.{frame_split}
use Rattle.frame.proofs.FormatLaws.{allowed-length_byte, content_length-length_byte}
use Rattle.frame.proofs.FrameLaws.{length_frame_of, frame_of_cons, frame_of_bytes}
use Rattle.frame.proofs.JudgeLaws.{sizes_settled}
use Rattle.frame.proofs.ReadLaws.{read_accepts}
use Rattle.sync.specs.declared.Kind.{Kind}
use Rattle.sync.specs.Kinds.{lead_of}
use Rattle.radio.specs.KindParts.{code_for, line_of, format_of}
use Rattle.radio.specs.Receiving.{length_at, by_frame, by_size, frame_after}
use Rattle.radio.specs.Heard.{heard_of}
use Rattle.radio.proofs.AirLaws.{FrameCoded}
use Rattle.radio.proofs.ThroughLaws.{Through, through_le, after_words_through, get_or-decoding}

-- the size that the length byte of a content's frame says
size_for_length_byte :
    (f : Format) (c : List ℕ) → (form_of f).shortest ≤ length c → length c ≤ (form_of f).longest
    → size_for f ((form_of f).length_byte (length c)) ≡ Ok (sizes (frame_size f (length c)) (length c))
size_for_length_byte f c low high =
    rw (allowed-length_byte f (length c) low high, content_length-length_byte f (length c) low high)

-- a frame has its length byte in front, and so one byte at least
get_or_frame_of : (f : Format) (c t : List ℕ) → get_or (frame_of f c ++ t) 0 0 ≡ (form_of f).length_byte (length c)
get_or_frame_of f c t = ap (λ (l : List ℕ). get_or (l ++ t) 0 0) (frame_of_cons f c)

frame_of_some : (f : Format) (c : List ℕ) → 0 < length (frame_of f c)
frame_of_some f c = rw (frame_of_cons f c) (omega arith)

-- a frame with nothing behind it
frame_at_frame_of :
    (f : Format) (c : List ℕ) → (form_of f).shortest ≤ length c → length c ≤ (form_of f).longest
    → FrameAt f (frame_of f c) (frame_size f (length c)) c
frame_at_frame_of f c low high =
    let all = take_all (frame_size f (length c)) (frame_of f c) (omega (arith, length_frame_of f c)) in
    record { low = low; high = high; size = refl; bytes = all }

module _ {k : Kind} {s : List ℕ} {place : ℕ} {c : List ℕ} (p : FrameCoded k s place c) where
  abbrev at : ℕ
  at = place + lead_of k

  abbrev frame : List ℕ
  frame = frame_of (format_of k) c

  abbrev size : ℕ
  size = frame_size (format_of k) (length c)

  size_some : 0 < size
  size_some = omega (arith, frame_of_some (format_of k) c, length_frame_of (format_of k) c)

  decoding_coded : decoding (line_of k) s at size ≡ frame
  decoding_coded =
      let bytes = frame_of_bytes (format_of k) c p.low p.high p.bytes in
      rw (length_frame_of (format_of k) c) at (decode_encode (lawful (code_for k)) s at frame p.holds bytes)

  through_coded : length s ≤ room_limit → Through (line_of k) s at size
  through_coded small =
      let run = good_run_encode (lawful (code_for k)) s at frame p.holds in
      let whole : Through (line_of k) s at (length frame) = record { small = small; there = p.there; words = run } in
      rw (length_frame_of (format_of k) c) at whole

  length_at_coded : length_at (line_of k) s at ≡ (form_of (format_of k)).length_byte (length c)
  length_at_coded =
      sym (get_or-decoding (line_of k) s at size size_some)
      ∙ ap (λ (x : List ℕ). get_or x 0 0) (decoding_coded ∙ sym (append-nil frame))
      ∙ get_or_frame_of (format_of k) c []

  size_for_coded : size_for (format_of k) (length_at (line_of k) s at) ≡ Ok (sizes size (length c))
  size_for_coded = ap (size_for (format_of k)) length_at_coded ∙ size_for_length_byte (format_of k) c p.low p.high

  module _ (small : length s ≤ room_limit) (t : ℕ) (d : List ℕ) (room : length c ≤ length d) where
    reading_coded :
        reading_of (format_of k) (decoding (line_of k) s at size) d
        ≡ record { answer = Ok (sizes size (length c)); memory = c ++ drop (length c) d }
    reading_coded =
        ap (λ (x : List ℕ). reading_of (format_of k) x d) decoding_coded
        ∙ read_accepts (frame_at_frame_of (format_of k) c p.low p.high) d room

    pub frame_after_coded : frame_after k place t s d ≡ heard_of k place t (frame_size (format_of k) (length c)) c d
    unfolding frame_after by_size
    frame_after_coded =
        let whole = through_coded small in
        after_words_through (line_of k) s at 1 d _ (through_le whole size_some)
        ∙ ap (by_size k place t s d) size_for_coded
        ∙ after_words_through (line_of k) s at size d _ whole
        ∙ ap (λ (o : Outcome (Result Frame Refusal)). by_frame k place t o.memory o.answer) reading_coded

-- the first y bytes were decoded, as their first byte says, and z of them are the frame of c
module _ (k : Kind) {s : List ℕ} (place : ℕ) {y m z : ℕ} {c : List ℕ}
    (sized : size_for (format_of k) (length_at (line_of k) s (place + lead_of k)) ≡ Ok (sizes y m))
    (whole : Through (line_of k) s (place + lead_of k) y)
    (frame : FrameAt (format_of k) (decoding (line_of k) s (place + lead_of k) y) z c) where
  abbrev bytes : List ℕ
  bytes = decoding (line_of k) s (place + lead_of k) y

  length_bytes : length bytes ≡ y
  length_bytes = length-decoding (line_of k) s (place + lead_of k) y

  bytes_some : 0 < y
  bytes_some =
      omega (arith, frame_of_some (format_of k) c, ap length frame.bytes, length-take z bytes, length_bytes)

  length_at_read : length_at (line_of k) s (place + lead_of k) ≡ (form_of (format_of k)).length_byte (length c)
  length_at_read =
      sym (get_or-decoding (line_of k) s (place + lead_of k) y bytes_some)
      ∙ ap (λ (x : List ℕ). get_or x 0 0) (frame_split frame)
      ∙ get_or_frame_of (format_of k) c (drop z bytes)

  -- so z are all of them
  size_read : z ≡ y
  size_read =
      let f = format_of k in
      let says = ap (size_for f) length_at_read ∙ size_for_length_byte f c frame.low frame.high in
      frame.size ∙ sym (sizes_settled (sym sized ∙ says)).0

  frame_of_read : frame_of (format_of k) c ≡ bytes
  frame_of_read = sym frame.bytes ∙ take_all z bytes (omega (arith, size_read, length_bytes))

  pub coded_read : Bytes c → FrameCoded k s place c
  coded_read content =
      let holds = encode_decode (lawful (code_for k)) s (place + lead_of k) y whole.words in
      record {
        bytes = content;
        low = frame.low;
        high = frame.high;
        there = rw (frame_of_read, length_bytes) whole.there;
        holds = rw frame_of_read holds;
      }
