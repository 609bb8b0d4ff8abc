-- `entry::judged::writing`: what the page says of the definition that the call answers by.
use Rattle.demands.proofs.Demands.{frame-numbers}
use Rattle.entry.proofs.judged.writing.Goals as goal

pub returns : goal.returns
returns c = rw c.write.ensures (frame-numbers.writing _ _ _)
