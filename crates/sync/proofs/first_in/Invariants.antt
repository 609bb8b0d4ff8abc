-- The loop's invariant: the word stands at none of the j places so far.
use Rattle.sync.specs.SyncSearch.{sync_word}
use Rattle.sync.proofs.PassedLaws.{Missed}
use Rattle.sync.proofs.ScanLaws.{stands_in}
use Rattle.sync.proofs.first_in.Given as goal

abbrev pub invariant-loop-j : goal.invariant-loop-j
invariant-loop-j l = Missed (stands_in sync_word l.x) l.r l.j
