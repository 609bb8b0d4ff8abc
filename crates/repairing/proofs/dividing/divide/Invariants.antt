-- `repairing::dividing::divide` meets its contract. Assumes nothing.
use Rattle.field.specs.Field.{alpha_to}
use Rattle.repairing.proofs.DivideLaws.{Dividing}
use Rattle.repairing.proofs.dividing.divide.Given as goal

abbrev pub invariant-loop-x : goal.invariant-loop-x
invariant-loop-x l = Dividing (alpha_to l.k) l.initial.v l.value l.v l.x-index
