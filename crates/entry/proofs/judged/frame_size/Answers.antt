-- `entry::judged::frame_size`: what the page says of the definition that the call answers by.
use Rattle.demands.proofs.Demands.{frame-numbers}
use Rattle.entry.proofs.judged.frame_size.Goals as goal

pub returns : goal.returns
returns c = rw c.frame_size.ensures (frame-numbers.frame_size_is _ _)
