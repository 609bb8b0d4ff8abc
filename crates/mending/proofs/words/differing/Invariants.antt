-- `mending::words::differing` meets its contract: `Counting` is the invariant. Assumes nothing.
use Rattle.mending.proofs.WordLaws.{Counting}
use Rattle.mending.proofs.words.differing.Given as goal

abbrev pub invariant-loop-i : goal.invariant-loop-i
invariant-loop-i l = Counting l.u l.v l.count l.i
