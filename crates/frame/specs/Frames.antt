-- A frame as bytes (EN 13757-4:2019, 12.2 to 12.5; document 01, "Frames").
--     frame_of f c          the frame of the content c: L, then c, cut into spans, each with its check behind it
--     content_in f n s      the n content bytes of the frame at the start of s: the payload without L
--     FrameAt f s z c      s begins with the frame of c, which has z bytes; c is neither too short nor too long for f
-- FrameAt says nothing of how a frame is read: it is what "accepted exactly when" is measured by.
use Rattle.std.specs.Prelude.{List, ◌∷◌, ◌≡◌, ℕ, ◌≤◌, length, take, drop}
use Rattle.blocks.specs.Spans.{framed, payload}
use Rattle.frame.specs.declared.Format.{Format}
use Rattle.frame.specs.Formats.{form_of, spans_of, frame_size}

unfoldable pub frame_of : Format → List ℕ → List ℕ
frame_of f c = framed (spans_of f (length c)) ((form_of f).length_byte (length c) ∷ c)

unfoldable pub content_in : Format → ℕ → List ℕ → List ℕ
content_in f n s = drop 1 (payload (spans_of f n) s)

pub record FrameAt (f : Format) (s : List ℕ) (z : ℕ) (c : List ℕ) : Type 0 where
  pub low : (form_of f).shortest ≤ length c
  pub high : length c ≤ (form_of f).longest
  pub size : z ≡ frame_size f (length c)
  pub bytes : take z s ≡ frame_of f c
