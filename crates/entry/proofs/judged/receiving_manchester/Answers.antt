-- `entry::judged::receiving_manchester`: what the page says of the definition that the call answers by.
use Rattle.demands.proofs.Demands.{frame-numbers}
use Rattle.entry.proofs.judged.receiving_manchester.Goals as goal

pub returns : goal.returns
returns c = rw c.receive_manchester.ensures (frame-numbers.receiving_manchester _ _ _)
