-- `repairing::values::follow` meets its contract. Assumes nothing.
use Rattle.std.proofs.Common.{◌≡◌, get_or, bit_xor}
use Rattle.ground.proofs.InPlaceLaws.{InPlace}
use Rattle.repairing.specs.Inner.{term}
use Rattle.repairing.proofs.values.follow.Given as goal

abbrev pub invariant-loop-value : goal.invariant-loop-value
invariant-loop-value l =
    (l.term ≡ term l.e l.place l.value-index)
    × InPlace (λ j. bit_xor (get_or l.initial.s j 0) (term l.e l.place j)) l.initial.s l.s l.value-index
