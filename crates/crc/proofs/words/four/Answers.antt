-- `crc::words::four` meets its contract: each word is moved by the digits behind it.
-- Assumes nothing.
use mathlib.Core.Path.{refl}
use native.Mathlib.Omega.{arith}
use Rattle.crc.specs.Check.{bit_in, bits_in}
use Rattle.crc.specs.Inner.{nested}
use Rattle.crc.proofs.FoldLaws.{four_leaves, four-lt}
use Rattle.crc.proofs.words.four.Goals as goal

pub moved-p-requires-clause-n_value : goal.moved-p-requires-clause-n_value
unfolding bit_in bits_in nested
moved-p-requires-clause-n_value c = refl

pub moved-q-requires-clause-n_value : goal.moved-q-requires-clause-n_value
unfolding bit_in bits_in nested
moved-q-requires-clause-n_value c = refl

pub moved-r-requires-clause-n_value : goal.moved-r-requires-clause-n_value
unfolding bit_in bits_in nested
moved-r-requires-clause-n_value c = refl

pub moved-t-requires-clause-n_value : goal.moved-t-requires-clause-n_value
unfolding bit_in bits_in nested
moved-t-requires-clause-n_value c = refl

pub returns : goal.returns
returns c =
    let a = c.args in record {
      result_value = four_leaves a.p a.q a.r a.t c.moved-p.result c.moved-q.result c.moved-r.result
          c.moved-t.result c.moved-p.ensures.result_value c.moved-q.ensures.result_value c.moved-r.ensures.result_value
          c.moved-t.ensures.result_value;
      upper_bound = four-lt c.moved-p.result c.moved-q.result c.moved-r.result c.moved-t.result
          (omega (arith, c.moved-p.ensures.by_index 32 (omega arith)))
          (omega (arith, c.moved-q.ensures.by_index 32 (omega arith)))
          (omega (arith, c.moved-r.ensures.by_index 32 (omega arith)))
          (omega (arith, c.moved-t.ensures.by_index 32 (omega arith)));
    }
