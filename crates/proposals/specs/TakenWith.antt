-- When a proposal is taken (document 02, 12/14: "exactly when it is a code word of 11/14 and differs from the received
-- word in at most 16 bytes"), said without the steps of judging. The numbers are written out: the promise is measured
-- by them, and not by the definitions of `Proposals`.
--     TakenWith f p s z d    the proposal p, a frame of z bytes and its check bytes, is taken for the received bytes s
--                            with d differing bytes. The frame's size is what its own length byte says
use Rattle.std.specs.Prelude.{Ok, List, ◌++◌, ◌≡◌, ℕ, ◌+◌, ◌≤◌, length, get_or, take, drop}
use Rattle.ground.specs.Apart.{apart}
use Rattle.frame.specs.declared.Format.{Format}
use Rattle.frame.specs.Formats.{sizes, size_for}
use Rattle.codewords.specs.CodeBlocks.{Corrects}

pub record TakenWith (f : Format) (p s : List ℕ) (z d : ℕ) : Type 0 where
  pub n : ℕ
  pub size : size_for f (get_or p 0 0) ≡ Ok (sizes z n)
  pub most : z ≤ 223
  pub proposed : z + 32 ≤ length p
  pub there : z + 34 ≤ length s
  pub code_word : Corrects (take z p) (take 32 (drop z p))
  pub differing : apart (take z s ++ take 32 (drop (z + 2) s)) (take (z + 32) p) ≡ d
  pub few : d ≤ 16
