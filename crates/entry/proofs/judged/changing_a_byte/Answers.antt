-- `entry::judged::changing_a_byte`: what the page says of the definition that the call answers by.
use Rattle.demands.proofs.Demands.{frame-numbers}
use Rattle.entry.proofs.judged.changing_a_byte.Goals as goal

pub returns : goal.returns
returns c = rw c.change.ensures (frame-numbers.changing_a_byte _ _ _ _)
