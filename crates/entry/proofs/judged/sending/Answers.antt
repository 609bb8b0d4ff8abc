-- `entry::judged::sending`: what the page says of the definition that the call answers by.
use Rattle.demands.proofs.Demands.{frame-numbers}
use Rattle.entry.proofs.judged.sending.Goals as goal

pub returns : goal.returns
returns c = rw c.send.ensures (frame-numbers.sending _ _ _)
