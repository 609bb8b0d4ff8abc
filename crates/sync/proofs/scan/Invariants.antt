-- The loop's invariant: the word stands at none of the i places so far; a turn passes over the n that one window holds.
use mathlib.Core.Bool.{Bool}
use mathlib.Core.List.{List}
use Prim.Native.Nat.{ℕ, ◌-◌, ◌≤◌}
use Rattle.sync.specs.SyncSearch.{stands_at, sync_word, sync_width}
use Rattle.sync.proofs.PassedLaws.{Missed}
use Rattle.sync.proofs.scan.Given as goal

-- the sync word stands at place k
abbrev pub syncAt : List ℕ → ℕ → Bool
syncAt s k = stands_at sync_word sync_width s k

abbrev pub invariant-loop-i : goal.invariant-loop-i
invariant-loop-i l = (l.i ≤ l.m) × Missed (syncAt l.s) l.start l.i

abbrev pub decreases-loop-i : goal.decreases-loop-i
decreases-loop-i l = l.m - l.i
