-- `locating::reducing::reduce` meets its contract. Assumes nothing.
use Rattle.std.proofs.Common.{◌≡◌, ◌-◌}
use Rattle.locating.specs.Inner.{Reducing}
use Rattle.locating.proofs.reducing.reduce.Given as goal

abbrev pub invariant-loop-column : goal.invariant-loop-column
invariant-loop-column l =
    (l.v.degree ≡ l.initial.v.degree) × Reducing l.s (16 - l.initial.v.degree) l.v.coefficients l.column
