-- `crc::words::left_by` meets its contract. The loop's invariant: the lowest sixteen digits of the sum are what those
-- of u and the j bytes above them leave. Assumes nothing.
use mathlib.Core.Path.{◌≡◌}
use Prim.Native.Nat.{◌%◌}
use Rattle.crc.proofs.TableLaws.{low_rows}
use Rattle.crc.proofs.words.left_by.Given as goal

abbrev pub invariant-loop-j : goal.invariant-loop-j
invariant-loop-j l = l.sum % 65536 ≡ low_rows l.u l.j
