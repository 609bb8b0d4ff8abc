-- `entry::judged::making_a_reader`: what the page says of the definition that the call answers by.
use Rattle.demands.proofs.Demands.{chip_numbers}
use Rattle.entry.proofs.judged.making_a_reader.Goals as goal

pub returns : goal.returns
returns c = rw c.start.ensures (chip_numbers.making_a_reader _ _)
