-- `crc::register` meets its contract. The loop's invariant: the bytes that are left, which fill whole groups, turn what
-- the word v leaves into the register of all bytes. Assumes nothing.
use mathlib.Core.Path.{◌≡◌}
use Prim.Native.Nat.{◌%◌, ◌<◌}
use lib.ListN.{length}
use Rattle.crc.specs.Check.{reg_of}
use Rattle.crc.specs.Inner.{remainder, folded}
use Rattle.crc.proofs.register.Given as goal

abbrev pub invariant-loop-g : goal.invariant-loop-g
invariant-loop-g l =
    let rest = l.g-iterator.rest.now in record {
      size : l.g-iterator.size ≡ 16;
      whole : length rest % 16 ≡ 0;
      upper_bound : l.v < folded;
      same : reg_of (remainder l.v) rest ≡ reg_of 0 l.s;
    }
