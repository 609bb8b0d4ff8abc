-- `crc::words::number` meets its contract. The loop's invariant: the bytes before the next one are the number w.
-- Assumes nothing.
use Prim.Native.Nat.{◌*◌, ◌<◌, ◌^◌}
use Rattle.crc.specs.Check.{bits_in}
use Rattle.crc.specs.Inner.{remainder, Adds}
use Rattle.crc.proofs.words.number.Given as goal

abbrev pub invariant-loop-b : goal.invariant-loop-b
invariant-loop-b l = (l.w < 2 ^ (8 * l.b-index)) × Adds l.s 0 l.b-index (bits_in 16 (remainder l.w))
