-- `entry::stored::adding_by_numbers`: what the page says of the definition that the call answers by.
use Rattle.std.proofs.Common.{rules}
use Rattle.demands.proofs.Demands.{store-numbers}
use Rattle.entry.proofs.stored.adding_by_numbers.Goals as goal

pub returns : goal.returns
returns c = rw c.add_by_number.ensures (store-numbers.adding_by_numbers _ (λ j. search rules) _ _ _)
