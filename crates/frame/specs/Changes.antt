-- Changing bytes of a finished frame (document 01, "Changing a byte", "Answer numbers": the frame's 1, 2, 3, then 9).
--     changing_of f s k b      the frame's own refusal; BadPlace if it has no content byte k; else s with the frame of
--                             the content whose byte k is now b, the bytes behind the frame as they were
--     place_of f n k           where byte k of n bytes of content stands in the frame
--     check_place_of f n k      where the check over it stands, its high byte
--     Edit                    a change: a place and a byte
--     changing f es s         what s holds after the changes es, one after the other, refused ones among them
--     answers_of f es s        what they answer
--     edited es c             the content c with the changes es made in that order; one past its end does nothing
--     last_at es k x           the byte of the last change at place k, or x if there is none
-- A change is measured by writing: that only three bytes of s differ, and how the new check follows from the old one,
-- are theorems (proofs/ChangeLaws), and so is what a sequence of changes leaves (proofs/SequenceLaws).
use Rattle.std.specs.Prelude.{cond, List, [], ◌∷◌, ◌++◌, ℕ, ◌+◌, ltb, eqb, drop, set, Result, Ok, Err}
use Rattle.answers.specs.Outcome.{Outcome, leaving}
use Rattle.blocks.specs.Places.{place_in, check_in}
use Rattle.answers.specs.declared.Refusal.{Refusal}
use Rattle.frame.specs.declared.Format.{Format}
use Rattle.frame.specs.declared.Frame.{Frame}
use Rattle.frame.specs.Formats.{spans_of}
use Rattle.frame.specs.Frames.{frame_of, content_in}
use Rattle.frame.specs.Judging.{judge_of}

unfoldable pub set_in : Format → List ℕ → ℕ → ℕ → Result Frame Refusal → Outcome (Result Frame Refusal)
set_in f s k b (Ok a) =
    cond (ltb k a.n)
    (leaving (Ok a) (frame_of f (set (content_in f a.n s) k b) ++ drop a.size s))
    (leaving (Err Refusal.BadPlace) s)
set_in f s k b (Err r) = leaving (Err r) s

unfoldable pub changing_of : Format → List ℕ → ℕ → ℕ → Outcome (Result Frame Refusal)
changing_of f s k b = set_in f s k b (judge_of f s)

-- L is byte 0 of what the spans hold, so content byte k is byte k + 1
abbrev pub place_of : Format → ℕ → ℕ → ℕ
place_of f n k = place_in (spans_of f n) (k + 1)

abbrev pub check_place_of : Format → ℕ → ℕ → ℕ
check_place_of f n k = check_in (spans_of f n) (k + 1)

pub record Edit : Type 0 where
  pub place : ℕ
  pub byte : ℕ

unfoldable pub changing : Format → List Edit → List ℕ → List ℕ
changing f [] s = s
changing f (e ∷ es) s = changing f es (changing_of f s e.place e.byte).memory

unfoldable pub answers_of : Format → List Edit → List ℕ → List (Result Frame Refusal)
answers_of f [] s = []
answers_of f (e ∷ es) s =
    (changing_of f s e.place e.byte).answer ∷ answers_of f es (changing_of f s e.place e.byte).memory

unfoldable pub edited : List Edit → List ℕ → List ℕ
edited [] c = c
edited (e ∷ es) c = edited es (set c e.place e.byte)

unfoldable pub last_at : List Edit → ℕ → ℕ → ℕ
last_at [] k x = x
last_at (e ∷ es) k x = last_at es k (cond (eqb e.place k) e.byte x)
