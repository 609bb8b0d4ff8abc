-- `entry::judged::judging`: what the page says of the definition that the call answers by.
use Rattle.demands.proofs.Demands.{frame-numbers}
use Rattle.entry.proofs.judged.judging.Goals as goal

pub returns : goal.returns
returns c = rw c.judge.ensures (frame-numbers.judging _ _)
