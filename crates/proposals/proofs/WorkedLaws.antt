-- Examples with numbers: w is a frame, c its check bytes, r what was received.
--     worked_code     check bytes that were worked out make a code word
--     worked_taken    a proposal whose differing bytes were counted is taken
-- Assumes nothing.
use mathlib.Core.Bool.{true}
use mathlib.Core.List.{List, ◌++◌}
use mathlib.Core.Path.{◌≡◌, ap, ◌∙◌}
use Prim.Native.Nat.{ℕ, ◌+◌, ◌≤◌}
use native.Mathlib.Omega.{arith}
use lib.ListN.{length, take}
use Rattle.std.specs.Prelude.{Ok}
use Rattle.ground.specs.Apart.{apart}
use Rattle.ground.specs.Bytes.{Bytes}
use Rattle.frame.specs.declared.Format.{Format}
use Rattle.frame.specs.Formats.{sizes}
use Rattle.codewords.specs.CheckBytes.{checks_of}
use Rattle.proposals.specs.Received.{size_in, received}
use Rattle.proposals.specs.Near.{is_code_block}
use Rattle.proposals.specs.Proposals.{compared, proposal_of}
use Rattle.proposals.proofs.CodeLaws.{checks_code, code-is_code_block}
use Rattle.proposals.proofs.ProposalLaws.{proposal_compared, compared_taken}

pub worked_code : (w c : List ℕ) → Bytes w → c ≡ checks_of w → is_code_block (w ++ c) ≡ true
worked_code w c bytes checks = code-is_code_block (w ++ c) (checks_code w bytes checks)

module _ (f : Format) (w c r : List ℕ) (d : ℕ) {z n : ℕ} where
  pub worked_taken :
      Bytes w → c ≡ checks_of w → size_in f (w ++ c) ≡ Ok (sizes z n) → z + 32 ≤ length (w ++ c)
      → z + 34 ≤ length r → take (z + 32) (w ++ c) ≡ w ++ c → apart (received z r) (w ++ c) ≡ d → d ≤ 16
      → proposal_of f (w ++ c) r ≡ Ok d
  worked_taken bytes checks sized whole there all differing few =
      proposal_compared f (w ++ c) r sized whole there ∙ ap (compared (received z r)) all
      ∙ compared_taken (received z r) (w ++ c) (worked_code w c bytes checks) (omega (arith, differing))
      ∙ ap Ok differing
