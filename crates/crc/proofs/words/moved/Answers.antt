-- `crc::words::moved` meets its contract: no digit is lost, and each shift moves what the word before it leaves.
-- Assumes nothing.
use native.Mathlib.Omega.{arith}
use Rattle.crc.proofs.FoldLaws.{moved_leaves, moved_lt}
use Rattle.crc.proofs.words.moved.Goals as goal

pub returns : goal.returns
returns c =
    let x = c.args in record {
      result_value = moved_leaves x.w x.a x.b x.c x.d x.e x.n c.requires.n_value (omega arith)
          (omega arith);
      by_index = moved_lt x.w x.a x.b x.c x.d x.e;
    }
