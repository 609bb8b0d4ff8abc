-- Annex C.2's frame with its check bytes, the whole block of 255 bytes evaluated at each of the 32 roots: a theorem of
-- the definition of a code word alone, without the division.
--     block_C2    the block is a code word
-- Assumes nothing.
use mathlib.Core.Bool.{Bool}
use mathlib.Core.List.{List}
use mathlib.Core.Path.{ap, ◌∙◌}
use Prim.Native.Nat.{ℕ}
use lib.Dec.{eqb, eqb→eq}
use Rattle.ground.proofs.TableLaws.{all_below_at}
use Rattle.field.specs.Field.{up, times_bits, mul, alpha_to}
use Rattle.field.specs.Polynomials.{eval_from, value_at}
use Rattle.frame.proofs.WorkedExamples.{bytes_C2}
use Rattle.codewords.specs.CodeBlocks.{CodeBlock, block_of}
use Rattle.codewords.proofs.RootLaws.{low_root, root_low}
use Rattle.codewords.proofs.AnnexC.{checks_C2}

abbrev block : List ℕ
block = block_of bytes_C2 checks_C2

zero_at : ℕ → Bool
zero_at k = eqb (value_at (low_root k) block) 0

pub block_C2 : CodeBlock block
unfolding zero_at eval_from mul times_bits up low_root alpha_to
block_C2 k h =
    ap (λ (r : ℕ). value_at r block) (root_low k)
    ∙ eqb→eq (value_at (low_root k) block) 0 (all_below_at zero_at 32 tt k h)
