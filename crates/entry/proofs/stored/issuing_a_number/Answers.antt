-- `entry::stored::issuing_a_number`: what the page says of the definition that the call answers by.
use Rattle.std.proofs.Common.{rules}
use Rattle.demands.proofs.Demands.{store-numbers}
use Rattle.entry.proofs.stored.issuing_a_number.Goals as goal

pub returns : goal.returns
returns c = rw c.issue.ensures (store-numbers.issuing_a_number _ (λ j. search rules) _)
