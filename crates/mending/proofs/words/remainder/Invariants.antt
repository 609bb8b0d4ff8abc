-- `mending::words::remainder` meets its contract: the sum in place is the invariant. Assumes nothing.
use lib.ListN.{drop}
use Rattle.ground.specs.Sums.{xors}
use Rattle.ground.proofs.InPlaceLaws.{elements, InPlace}
use Rattle.mending.proofs.words.remainder.Given as goal

abbrev pub invariant-loop-i : goal.invariant-loop-i
invariant-loop-i l = InPlace (elements (xors (drop l.end l.w) l.initial.rest)) l.initial.rest l.rest l.i
