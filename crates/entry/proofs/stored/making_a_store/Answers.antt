-- `entry::stored::making_a_store`: what the page says of the definition that the call answers by.
use Rattle.demands.proofs.Demands.{store-numbers}
use Rattle.entry.proofs.stored.making_a_store.Goals as goal

pub returns : goal.returns
returns c = rw c.empty.ensures (store-numbers.making_a_store _)
