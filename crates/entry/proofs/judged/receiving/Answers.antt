-- `entry::judged::receiving`: what the page says of the definition that the call answers by.
use Rattle.demands.proofs.Demands.{frame-numbers}
use Rattle.entry.proofs.judged.receiving.Goals as goal

pub returns : goal.returns
returns c = rw c.receive.ensures (frame-numbers.receiving _ _ _ _)
