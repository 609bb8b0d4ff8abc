-- `restoring::merge_all` meets its contract. The loop's invariant: the memory has the meters that are there after the
-- first i of the file. Assumes nothing.
use mathlib.Core.Path.{◌≡◌}
use Rattle.store.specs.Inner.{restored_to, merging}
use Rattle.store.proofs.restoring.merge_all.Given as goal

abbrev pub invariant-loop-i : goal.invariant-loop-i
invariant-loop-i l =
    l.store ≡ merging l.initial.store (restored_to l.initial.store l.count l.theirs.bytes.now l.theirs.first l.i)
