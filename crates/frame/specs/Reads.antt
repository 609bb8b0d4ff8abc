-- Reading a frame from bytes (document 01, "Frames", "Answer numbers": 1 for an empty buffer, 2, 1, 3, 4).
--     reading_of f s d         the frame's own refusal; NoRoom if the lent d is shorter than the content; else the
--                             content in the first n bytes of d, whose other bytes stay. A refusal leaves d as it was
--     Handed f s d z n m c    what an accepted reading hands over, said without the reader: s begins with the frame
--                             of c, which has z bytes; d has room for c's n bytes; m is c with what d held behind it
use Rattle.std.specs.Prelude.{cond, List, ◌++◌, ◌≡◌, ℕ, ◌≤◌, ltb, length, drop, Result, Ok, Err}
use Rattle.answers.specs.Outcome.{Outcome, leaving}
use Rattle.answers.specs.declared.Refusal.{Refusal}
use Rattle.frame.specs.declared.Format.{Format}
use Rattle.frame.specs.declared.Frame.{Frame}
use Rattle.frame.specs.Frames.{content_in, FrameAt}
use Rattle.frame.specs.Judging.{judge_of}

unfoldable pub taken_out : Format → List ℕ → List ℕ → Result Frame Refusal → Outcome (Result Frame Refusal)
taken_out f s d (Ok a) =
    cond (ltb (length d) a.n)
    (leaving (Err Refusal.NoRoom) d)
    (leaving (Ok a) (content_in f a.n s ++ drop a.n d))
taken_out f s d (Err r) = leaving (Err r) d

unfoldable pub reading_of : Format → List ℕ → List ℕ → Outcome (Result Frame Refusal)
reading_of f s d = taken_out f s d (judge_of f s)

pub record Handed (f : Format) (s d : List ℕ) (z n : ℕ) (m c : List ℕ) : Type 0 where
  pub sized : length c ≡ n
  pub frame : FrameAt f s z c
  pub room : n ≤ length d
  pub memory : m ≡ c ++ drop n d
