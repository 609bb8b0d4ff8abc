-- `line::encoding::pour` meets its contract. The loop's invariant: the bytes before the one at hand are written, and
-- `held` has the next `count` chips, up to the end of the i bytes taken in; behind the last byte chips are 0.
use lib.ListN.{length}
use Rattle.line.proofs.PouringLaws.{Pouring}
use Rattle.line.specs.Codes.{code_of}
use Rattle.line.specs.Inner.{sent_chip}
use Rattle.line.proofs.encoding.pour.Given as goal

abbrev pub invariant-loop-byte : goal.invariant-loop-byte
invariant-loop-byte l =
    Pouring (sent_chip (code_of l.code) l.s) (length l.initial.out) l.unit l.held l.count l.i l.byte-index l.out
    l.initial.out
