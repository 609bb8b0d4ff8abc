-- `line::encoding::coded_byte` meets its contract. The loop's invariant: `all` is the number that the chips of the
-- byte's first k words make, one behind the other.
use Rattle.line.proofs.CodingLaws.{Coding}
use Rattle.line.specs.Codes.{code_of}
use Rattle.line.proofs.encoding.coded_byte.Given as goal

abbrev pub invariant-loop-k : goal.invariant-loop-k
invariant-loop-k l = Coding (code_of l.code) l.s l.i l.b l.w l.k-end l.x l.all l.k
