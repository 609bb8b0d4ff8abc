-- `entry::stored::adding_a_meter`: what the page says of the definition that the call answers by.
use Rattle.std.proofs.Common.{rules}
use Rattle.demands.proofs.Demands.{store-numbers}
use Rattle.entry.proofs.stored.adding_a_meter.Goals as goal

pub returns : goal.returns
returns c = rw c.add.ensures (store-numbers.adding_a_meter _ (λ j. search rules) _ _ _)
