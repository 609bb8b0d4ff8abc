-- Writing, case by case, and that reading and writing undo each other.
--     writing_of_short, -long, -no-room, -accepted    the content is too short, too long; there is no room; or neither
--     writing_of_frame    writing the content of a frame that stands somewhere gives the frame's bytes
--     write_frame        what was written begins with the frame of the content
--     read_write         reading what was written gives the content back
--     write_read         writing what was read gives the frame's bytes back
use mathlib.Core.List.{List, ◌++◌}
use mathlib.Core.Path.{◌≡◌, refl}
use Prim.Native.Nat.{ℕ, ◌≤◌, ◌<◌}
use borrow.Author.Tests.{lt-ltb, le-ltb, lt-leb, le-leb}
use lib.ListN.{length, take, drop}
use lib.Seq.{take_at}
use Rattle.std.specs.Prelude.{Ok, Err}
use Rattle.answers.specs.declared.Refusal.{Refusal}
use Rattle.frame.specs.declared.Format.{Format}
use Rattle.frame.specs.Formats.{form_of, frame_size, sizes}
use Rattle.frame.specs.Frames.{frame_of, FrameAt}
use Rattle.frame.specs.Reads.{reading_of}
use Rattle.frame.specs.Writes.{writing_of}
use Rattle.frame.proofs.FormatLaws.{within_true}
use Rattle.frame.proofs.FrameLaws.{length_frame_of}
use Rattle.frame.proofs.ReadLaws.{read_accepts, read-accepted, handed_take}

module _ (f : Format) (c d : List ℕ) where
  pub writing_of_short :
      length c < (form_of f).shortest
      → writing_of f c d ≡ record { answer = Err Refusal.BadContent; memory = d }
  unfolding writing_of
  writing_of_short h = rw (lt-leb (form_of f).shortest (length c) h)

  pub writing_of_long :
      (form_of f).shortest ≤ length c → (form_of f).longest < length c
      → writing_of f c d ≡ record { answer = Err Refusal.BadContent; memory = d }
  unfolding writing_of
  writing_of_long l h = rw (le-leb (form_of f).shortest (length c) l, lt-leb (length c) (form_of f).longest h)

  module _ (low : (form_of f).shortest ≤ length c) (high : length c ≤ (form_of f).longest) where
    pub writing_of_no_room :
        length d < frame_size f (length c)
        → writing_of f c d ≡ record { answer = Err Refusal.NoRoom; memory = d }
    unfolding writing_of
    writing_of_no_room h =
        rw (within_true _ _ (length c) low high, lt-ltb (length d) (frame_size f (length c)) h)

    pub writing_of-accepted : frame_size f (length c) ≤ length d
        → writing_of f c d
        ≡ record {
          answer = Ok (frame_size f (length c));
          memory = frame_of f c ++ drop (frame_size f (length c)) d;
        }
    unfolding writing_of
    writing_of-accepted h = rw (within_true _ _ (length c) low high, le-ltb (length d) (frame_size f (length c)) h)

    pub write_frame :
        frame_size f (length c) ≤ length d → FrameAt f (writing_of f c d).memory (frame_size f (length c)) c
    write_frame h =
        let front = take_at (frame_of f c) (drop (frame_size f (length c)) d) _ (length_frame_of f c) in
        rw (writing_of-accepted h) (record { low = low; high = high; size = refl; bytes = front })

    pub read_write :
        frame_size f (length c) ≤ length d → (e : List ℕ) → length c ≤ length e
        → reading_of f (writing_of f c d).memory e
        ≡ record { answer = Ok (sizes (frame_size f (length c)) (length c)); memory = c ++ drop (length c) e }
    read_write h e room = read_accepts (write_frame h) e room

pub writing_of_frame :
    {f : Format} {s : List ℕ} {z : ℕ} {c : List ℕ} → FrameAt f s z c → (e : List ℕ) → z ≤ length e
    → writing_of f c e ≡ record { answer = Ok z; memory = take z s ++ drop z e }
writing_of_frame {f} {c = c} at e room =
    rw (at.bytes, at.size) (writing_of-accepted f c e at.low at.high (rw (← at.size) room))

pub write_read :
    (f : Format) (s d e : List ℕ) (z n : ℕ) → (reading_of f s d).answer ≡ Ok (sizes z n) → z ≤ length e
    → writing_of f (take n (reading_of f s d).memory) e
    ≡ record { answer = Ok z; memory = take z s ++ drop z e }
write_read f s d e z n h room =
    let q = read-accepted f s d h in
    rw (handed_take q) (writing_of_frame q.frame e room)
