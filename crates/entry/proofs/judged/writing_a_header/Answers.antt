-- `entry::judged::writing_a_header`: what the page says of the definition that the call answers by.
use Rattle.demands.proofs.Demands.{meter-numbers}
use Rattle.entry.proofs.judged.writing_a_header.Goals as goal

pub returns : goal.returns
returns c = rw c.write.ensures (meter-numbers.writing_a_header c.args.h _)
