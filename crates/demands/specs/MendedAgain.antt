-- What becomes of a frame that was sent with its correction bytes (document 02, 12/14, end to end). s begins with a
-- frame of z bytes, m holds it with its header and check bytes as they were written, r what was received of them, and e
-- is the memory that the proposer is lent.
--     MendedAgain k f s m r e z d    a proposal that mends k bytes or fewer is made for r: it is the word that was
--                                    written, it is taken with d differing bytes, and reading its frame gives what
--                                    reading s gave, whatever room is lent for that
use Rattle.std.specs.Prelude.{List, ◌++◌, ◌≡◌, ℕ, ◌+◌, take, drop, Ok}
use Rattle.frame.specs.declared.Format.{Format}
use Rattle.frame.specs.Reads.{reading_of}
use Rattle.proposals.specs.Proposals.{proposal_of, proposing_of}

pub record MendedAgain (k : ℕ) (f : Format) (s m r e : List ℕ) (z d : ℕ) : Type 0 where
  pub answer : (proposing_of k f r e).answer ≡ Ok (z + 32)
  pub word : take (z + 32) (proposing_of k f r e).memory ≡ take z m ++ take 32 (drop (z + 2) m)
  pub taken : proposal_of f (proposing_of k f r e).memory r ≡ Ok d
  pub read : (room : List ℕ) → reading_of f (proposing_of k f r e).memory room ≡ reading_of f s room
