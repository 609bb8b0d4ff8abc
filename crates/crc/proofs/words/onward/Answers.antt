-- `crc::words::onward` meets its contract: the upper digits come round, the lower ones are moved. Assumes nothing.
use mathlib.Core.Path.{refl}
use Prim.Native.Nat.{◌/◌, ◌^◌}
use native.Mathlib.Omega.{arith}
use lib.Bits.{xor_lt}
use Rattle.crc.specs.Check.{bit_in, bits_in}
use Rattle.crc.specs.Inner.{nested}
use Rattle.crc.proofs.FoldLaws.{onward_leaves}
use Rattle.crc.proofs.words.onward.Goals as goal

pub moved-low-requires-clause-n_value : goal.moved-low-requires-clause-n_value
unfolding bit_in bits_in nested
moved-low-requires-clause-n_value c = refl

pub returns : goal.returns
returns c =
    let v = c.args.v in
    let x = c.moved-low.result in record {
      result_value = onward_leaves v x (omega arith) c.moved-low.ensures.result_value;
      upper_bound = xor_lt 54
          (v / 2 ^ 23) x (omega arith) (omega (arith, c.moved-low.ensures.by_index 23 (omega arith)));
    }
