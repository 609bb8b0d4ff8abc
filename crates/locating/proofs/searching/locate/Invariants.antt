-- `locating::searching::locate` meets its contract. Assumes nothing.
use Rattle.std.proofs.Common.{◌-◌}
use Rattle.locating.proofs.SearchLaws.{Searching}
use Rattle.locating.proofs.searching.locate.Given as goal

abbrev pub invariant-loop-column : goal.invariant-loop-column
invariant-loop-column l = Searching l.s l.kept (16 - l.v.degree) l.v.coefficients l.from

abbrev pub decreases-loop-column : goal.decreases-loop-column
decreases-loop-column l = 16 - l.v.degree
