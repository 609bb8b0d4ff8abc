-- Writing a frame (document 01, "Frames", "Answer numbers": 5, 4).
--     writing_of f c d    BadContent if c is too short or too long for f; NoRoom if the lent d is shorter than the
--                        frame; else the frame from d's first byte on, the bytes after it stay. A refusal leaves d as
--                        it was
use Rattle.std.specs.Prelude.{cond, List, ◌++◌, ℕ, ltb, length, drop, Result, Ok, Err}
use Rattle.answers.specs.Outcome.{Outcome, leaving}
use Rattle.answers.specs.declared.Refusal.{Refusal}
use Rattle.frame.specs.declared.Format.{Format}
use Rattle.frame.specs.Formats.{form_of, within, frame_size}
use Rattle.frame.specs.Frames.{frame_of}

unfoldable pub writing_of : Format → List ℕ → List ℕ → Outcome (Result ℕ Refusal)
writing_of f c d =
    cond (within (form_of f).shortest (form_of f).longest (length c))
    (cond (ltb (length d) (frame_size f (length c)))
    (leaving (Err Refusal.NoRoom) d)
    (leaving (Ok (frame_size f (length c))) (frame_of f c ++ drop (frame_size f (length c)) d)))
    (leaving (Err Refusal.BadContent) d)
