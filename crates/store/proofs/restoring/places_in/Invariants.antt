-- `restoring::places_in` meets its contract. The loop's invariant: the places of the first i meters of the file are
-- found, and how many meters there are with them. Assumes nothing.
use Rattle.store.proofs.PlacedLaws.{Placed}
use Rattle.store.proofs.restoring.places_in.Given as goal

abbrev pub invariant-loop-i : goal.invariant-loop-i
invariant-loop-i l =
    Placed l.held.bytes.now l.held.count l.theirs.bytes.now l.theirs.first 64 l.places l.total l.i
