-- `blocks::copy` meets its contract. The invariant of both loops: the bytes before the one at hand are copied, all
-- others stand as they stood. The measure of the first is how many are left. Assumes nothing.
use mathlib.Core.Path.{◌≡◌}
use Prim.Native.Nat.{◌-◌, ◌≤◌}
use lib.ListN.{length}
use Rattle.blocks.proofs.CopyLaws.{begun}
use Rattle.blocks.proofs.copy.Given as goal

abbrev pub invariant-loop-i : goal.invariant-loop-i
invariant-loop-i l =
    (l.i ≤ l.n) × ((length l.to ≡ length l.initial.to) × (l.to ≡ begun l.initial.to l.«from» l.i))

abbrev pub decreases-loop-i : goal.decreases-loop-i
decreases-loop-i l = l.n - l.i

abbrev pub invariant-loop-k : goal.invariant-loop-k
invariant-loop-k l = (length l.to ≡ length l.initial.to) × (l.to ≡ begun l.initial.to l.«from» l.k)
