-- `locating::reducing::add_times` meets its contract. Assumes nothing.
use Rattle.ground.specs.Sums.{xors}
use Rattle.ground.proofs.InPlaceLaws.{elements, InPlace}
use Rattle.field.specs.Polynomials.{scaled}
use Rattle.locating.proofs.reducing.add_times.Given as goal

abbrev pub invariant-loop-k : goal.invariant-loop-k
invariant-loop-k l = InPlace (elements (xors l.initial.v (scaled l.f l.p))) l.initial.v l.v l.k
