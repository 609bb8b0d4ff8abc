-- Whether a buffer begins with a frame (document 01, "Answer numbers": reading bytes, 1 for an empty buffer, 2, 1, 3).
--     judge_of f s    Short for no byte at all; BadLength; Short for fewer bytes than the frame has; the first wrong
--                    check; or Ok with the frame's size and its content's length. s may be longer than the frame
-- What reading and changing do with it stands in Reads and Changes.
use Rattle.std.specs.Prelude.{cond, List, [], ◌∷◌, ℕ, ltb, length, Option, None, Some, Result, Ok, Err}
use Rattle.blocks.specs.Spans.{first_wrong}
use Rattle.answers.specs.declared.Refusal.{Refusal}
use Rattle.frame.specs.declared.Format.{Format}
use Rattle.frame.specs.declared.Frame.{Frame}
use Rattle.frame.specs.Formats.{spans_of, sizes, size_for}

-- all bytes are there: do the checks hold?
unfoldable pub by_checks : ℕ → ℕ → Option ℕ → Result Frame Refusal
by_checks z n None = Ok (sizes z n)
by_checks z n (Some b) = Err (Refusal.WrongCheck b)

-- L is known: is it allowed, and are all bytes there?
unfoldable pub by_length : Format → List ℕ → Result Frame Refusal → Result Frame Refusal
by_length f s (Ok a) =
    cond (ltb (length s) a.size) (Err Refusal.Short) (by_checks a.size a.n (first_wrong 1 (spans_of f a.n) s))
by_length f s (Err r) = Err r

unfoldable pub judge_of : Format → List ℕ → Result Frame Refusal
judge_of f [] = Err Refusal.Short
judge_of f (l ∷ s) = by_length f (l ∷ s) (size_for f l)
