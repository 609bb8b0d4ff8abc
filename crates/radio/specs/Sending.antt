-- Sending a frame in chips (document 01, "Sync search": sync chips, then the frame; unused chips of the last byte are
-- 0, bytes after it stay; "Answer numbers": writing 5, 4).
--     air_of k p           the bytes that hold the chips of kind k for the frame p: sync chips, then p in the line code
--     air_size k z         how many bytes they are, for a frame of z bytes
--     putting k p d       NoRoom if the lent d is shorter than these bytes; else d begins with them
--     sending_of k c d     BadContent if c is too short or too long for k's format; else its frame is put
--     sent_of k c          the bytes that sending the content c as kind k writes
--     sent_chips k n       how many chips they are for n bytes of content, the unused ones of the last byte not counted
--     SentAt k s place c  the chips of s from `place` on are those that sending c as kind k writes
-- SentAt says nothing of how chips are received: "accepted exactly when" is measured by it.
use Rattle.std.specs.Prelude.{cond, List, ◌++◌, ◌≡◌, ℕ, ◌+◌, ◌≤◌, ◌<◌, ltb, length, drop, get_or, Result, Ok, Err}
use Rattle.answers.specs.Outcome.{Outcome, leaving}
use Rattle.answers.specs.declared.Refusal.{Refusal}
use Rattle.chips.specs.Chips.{chip_at, chip_count}
use Rattle.line.specs.Codes.{chips_in}
use Rattle.line.specs.Encoding.{encoding, encoded_size}
use Rattle.frame.specs.Formats.{form_of, within, frame_size}
use Rattle.frame.specs.Frames.{frame_of}
use Rattle.sync.specs.declared.Kind.{Kind}
use Rattle.sync.specs.Kinds.{sync_bytes, lead_of}
use Rattle.radio.specs.KindParts.{line_of, format_of}

unfoldable pub air_of : Kind → List ℕ → List ℕ
air_of k p = sync_bytes k ++ encoding (line_of k) p

abbrev pub air_size : Kind → ℕ → ℕ
air_size k z = length (sync_bytes k) + encoded_size (line_of k) z

unfoldable pub putting : Kind → List ℕ → List ℕ → Outcome (Result ℕ Refusal)
putting k p d =
    cond (ltb (length d) (air_size k (length p))) (leaving (Err Refusal.NoRoom) d)
    (record {
      answer = Ok (air_size k (length p));
      memory = air_of k p ++ drop (air_size k (length p)) d;
    })

unfoldable pub sending_of : Kind → List ℕ → List ℕ → Outcome (Result ℕ Refusal)
sending_of k c d =
    cond (within (form_of (format_of k)).shortest (form_of (format_of k)).longest (length c))
    (putting k (frame_of (format_of k) c) d)
    (leaving (Err Refusal.BadContent) d)

abbrev pub sent_of : Kind → List ℕ → List ℕ
sent_of k c = air_of k (frame_of (format_of k) c)

unfoldable pub sent_chips : Kind → ℕ → ℕ
sent_chips k n = lead_of k + chips_in (line_of k) (frame_size (format_of k) n)

pub record SentAt (k : Kind) (s : List ℕ) (place : ℕ) (c : List ℕ) : Type 0 where
  -- c is a content of bytes, neither too short nor too long for k's format
  pub bytes : (i : ℕ) → get_or c i 0 < 256
  pub low : (form_of (format_of k)).shortest ≤ length c
  pub high : length c ≤ (form_of (format_of k)).longest
  -- every chip that is sent stands in s, from `place` on
  pub whole : place + sent_chips k (length c) ≤ chip_count s
  pub chips : (i : ℕ) → i < sent_chips k (length c) → chip_at s (place + i) ≡ chip_at (sent_of k c) i
