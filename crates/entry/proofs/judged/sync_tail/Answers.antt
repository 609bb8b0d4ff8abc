-- `entry::judged::sync_tail`: what the page says of the definition that the call answers by.
use Rattle.demands.proofs.Demands.{chip_numbers}
use Rattle.entry.proofs.judged.sync_tail.Goals as goal

pub returns : goal.returns
returns c = rw c.tail_at.ensures (chip_numbers.sync_tail _ _)
