-- `entry::judged::reading`: what the page says of the definition that the call answers by.
use Rattle.demands.proofs.Demands.{frame-numbers}
use Rattle.entry.proofs.judged.reading.Goals as goal

pub returns : goal.returns
returns c = rw c.read.ensures (frame-numbers.reading _ _ _)
