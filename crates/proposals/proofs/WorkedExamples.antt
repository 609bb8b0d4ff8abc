-- Proposals for Annex C.2's frame with its correction, on both sides of the edge. What was received differs from what
-- was sent in its first bytes, each of which came as FFh, and in the header.
--     nothing_differs    the header alone came wrong: taken with 0
--     sixteen_differ     16 bytes, the length byte among them: taken with 16
--     seventeen_differ   17: 26
--     no_code_word       the proposal has one wrong byte, and 17 bytes differ: 25, since 25 is judged first
-- Assumes nothing.
use mathlib.Core.List.{List, ◌∷◌, ◌++◌}
use mathlib.Core.Path.{◌≡◌, refl, sym, ◌∙◌}
use Prim.Native.Nat.{ℕ}
use native.Mathlib.Omega.{arith}
use lib.ListN.{drop, replicate, set}
use Rattle.std.specs.Prelude.{Ok, Err}
use Rattle.answers.specs.declared.Refusal.{Refusal}
use Rattle.ground.specs.Apart.{apart}
use Rattle.ground.specs.Bytes.{Bytes}
use Rattle.ground.specs.Sums.{xors}
use Rattle.ground.proofs.TableLaws.{all_bytes}
use Rattle.field.specs.Field.{up, times_bits, mul, alpha_to}
use Rattle.field.specs.Polynomials.{eval_from, scaled}
use Rattle.blocks.specs.Spans.{size_of, cut}
use Rattle.frame.specs.declared.Format.{Format}
use Rattle.frame.specs.Formats.{frame_size}
use Rattle.frame.proofs.WorkedExamples.{bytes_C2}
use Rattle.codewords.specs.CodeBlocks.{root}
use Rattle.codewords.specs.CheckBytes.{step_in, rem_of, checks_of}
use Rattle.codewords.proofs.AnnexC.{checks_C2}
use Rattle.codewords.proofs.NumbersLaws.{checks_of-numbers}
use Rattle.proposals.specs.Received.{not_too_long, size_in, received}
use Rattle.proposals.specs.Near.{all_zero}
use Rattle.proposals.specs.Proposals.{compared, proposal_by, proposal_of}
use Rattle.proposals.proofs.ProposalLaws.{proposal_compared, compared_far}
use Rattle.proposals.proofs.WorkedLaws.{worked_code, worked_taken}

-- what was sent, and what came of it: the first n bytes wrong, the header too
abbrev word : List ℕ
word = bytes_C2 ++ checks_C2

abbrev came : ℕ → List ℕ
came n = replicate n 0xFF ++ drop n (bytes_C2 ++ (0xFF ∷ 0xFF ∷ checks_C2))

bytes_sent : Bytes bytes_C2
bytes_sent = all_bytes bytes_C2 tt

checks_sent : checks_C2 ≡ checks_of bytes_C2
unfolding step_in rem_of scaled xors mul times_bits up
checks_sent = sym (checks_of-numbers bytes_C2)

pub nothing_differs : proposal_of Format.A word (came 0) ≡ Ok 0
unfolding size_in not_too_long frame_size size_of cut apart
nothing_differs =
    worked_taken Format.A bytes_C2 checks_C2 (came 0) 0 {z = 20} {n = 15} bytes_sent checks_sent refl (omega arith)
    (omega arith) refl refl (omega arith)

pub sixteen_differ : proposal_of Format.A word (came 16) ≡ Ok 16
unfolding size_in not_too_long frame_size size_of cut apart
sixteen_differ =
    worked_taken Format.A bytes_C2 checks_C2 (came 16) 16 {z = 20} {n = 15} bytes_sent checks_sent refl (omega arith)
    (omega arith) refl refl (omega arith)

pub seventeen_differ : proposal_of Format.A word (came 17) ≡ Err Refusal.TooFar
unfolding size_in not_too_long frame_size size_of cut apart
seventeen_differ =
    proposal_compared Format.A word (came 17) {z = 20} {n = 15} refl (omega arith) (omega arith)
    ∙ compared_far (received 20 (came 17)) word (worked_code bytes_C2 checks_C2 bytes_sent checks_sent) (omega arith)

-- the proposal's last check byte is wrong: its value at the last root is not 0
pub no_code_word : proposal_of Format.A (set word 51 0) (came 17) ≡ Err Refusal.NotCode
unfolding proposal_of proposal_by compared size_in not_too_long frame_size size_of cut apart all_zero root alpha_to
    eval_from mul
    times_bits up
no_code_word = refl
