-- What was received of a frame and its correction (EN 13757-4:2019, 12.8.2; document 02, 12/14).
--     size_in f s       the frame's size by the length byte that s begins with: Short if there is none; BadLength;
--                      TooLong if it is over 223 (house)
--     received z s     the word that s holds, where the frame has z bytes: the frame and its 32 check bytes. The two
--                      bytes of header between them are skipped, whatever they are. The zero fill of 11/14 is left out:
--                      before a block it changes nothing (codewords/proofs/FillLaws)
use Rattle.std.specs.Prelude.{cond, Result, Ok, Err, List, [], ◌∷◌, ◌++◌, ℕ, ◌+◌, ltb, take, drop}
use Rattle.answers.specs.declared.Refusal.{Refusal}
use Rattle.frame.specs.declared.Format.{Format}
use Rattle.frame.specs.declared.Frame.{Frame}
use Rattle.frame.specs.Formats.{size_for}

unfoldable pub not_too_long : Result Frame Refusal → Result Frame Refusal
not_too_long (Ok a) = cond (ltb 223 a.size) (Err Refusal.TooLong) (Ok a)
not_too_long (Err r) = Err r

unfoldable pub size_in : Format → List ℕ → Result Frame Refusal
size_in f [] = Err Refusal.Short
size_in f (l ∷ s) = not_too_long (size_for f l)

abbrev pub received : ℕ → List ℕ → List ℕ
received z s = take z s ++ take 32 (drop (z + 2) s)
