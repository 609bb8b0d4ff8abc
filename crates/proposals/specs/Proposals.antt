-- Judging a proposal, and making one (document 02, 12/14). A proposal is a frame and its 32 check bytes, without the
-- header.
--     proposal_of f p s      what becomes of the proposal p for the received bytes s: sizeIn's 1, 2, 23 by the length
--                           byte of p, that of s settles no size; Short if p or s has too few bytes for this size;
--                           NotCode; TooFar if over 16 bytes differ; else taken, Ok with the number of those that do
--     proposing_of k f s d   the proposal for the received bytes s: sizeIn's 1, 2, 23 by their own length byte; Short;
--                           NoRoom; else `nearest_of k` of the received word from d's first byte on. The bytes after it
--                           stay, and a refusal leaves d as it was. 12/14's proposer is the one with k = 1
-- Whether the block checks of the frame are right is not asked here: a taken frame is read as every frame is, and
-- reading may still refuse it with 3 (12/14: "then read under demand 2").
use Rattle.std.specs.Prelude.{cond, ◌||◌, Result, Ok, Err, List, ◌++◌, ℕ, ◌+◌, ltb, length, take, drop}
use Rattle.answers.specs.Outcome.{Outcome, leaving}
use Rattle.answers.specs.declared.Refusal.{Refusal}
use Rattle.ground.specs.Apart.{apart}
use Rattle.frame.specs.declared.Format.{Format}
use Rattle.frame.specs.declared.Frame.{Frame}
use Rattle.proposals.specs.Received.{size_in, received}
use Rattle.proposals.specs.Near.{is_code_block, nearest_of}

-- the received word w and the proposed word c
unfoldable pub compared : List ℕ → List ℕ → Result ℕ Refusal
compared w c =
    cond (is_code_block c)
    (cond (ltb 16 (apart w c)) (Err Refusal.TooFar) (Ok (apart w c)))
    (Err Refusal.NotCode)

unfoldable pub proposal_by : List ℕ → List ℕ → Result Frame Refusal → Result ℕ Refusal
proposal_by p s (Ok a) =
    cond (ltb (length p) (a.size + 32) || ltb (length s) (a.size + 34))
    (Err Refusal.Short)
    (compared (received a.size s) (take (a.size + 32) p))
proposal_by p s (Err r) = Err r

unfoldable pub proposal_of : Format → List ℕ → List ℕ → Result ℕ Refusal
proposal_of f p s = proposal_by p s (size_in f p)

unfoldable pub proposing_by : ℕ → List ℕ → List ℕ → Result Frame Refusal → Outcome (Result ℕ Refusal)
proposing_by k s d (Ok a) =
    cond (ltb (length s) (a.size + 34))
    (leaving (Err Refusal.Short) d)
    (cond (ltb (length d) (a.size + 32))
    (leaving (Err Refusal.NoRoom) d)
    (leaving (Ok (a.size + 32)) (nearest_of k (received a.size s) ++ drop (a.size + 32) d)))
proposing_by k s d (Err r) = leaving (Err r) d

unfoldable pub proposing_of : ℕ → Format → List ℕ → List ℕ → Outcome (Result ℕ Refusal)
proposing_of k f s d = proposing_by k s d (size_in f s)
