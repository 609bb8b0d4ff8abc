-- `repairing::scanning::scan` meets its contract. Assumes nothing.
use Rattle.std.proofs.Common.{◌≡◌, ◌-◌, ◌+◌, length}
use Rattle.repairing.specs.Inner.{Going}
use Rattle.repairing.proofs.scanning.scan.Given as goal

abbrev pub invariant-loop-at : goal.invariant-loop-at
invariant-loop-at l = Going l.initial.w l.w l.s l.v l.at.degree l.at.place × (length l.v ≡ length l.initial.v)

abbrev pub decreases-loop-at : goal.decreases-loop-at
decreases-loop-at l = length l.initial.w - l.at.place + l.at.degree
