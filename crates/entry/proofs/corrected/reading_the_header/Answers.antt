-- `entry::corrected::reading_the_header`: what the page says of the definition that the call answers by.
use Rattle.demands.proofs.Demands.{correction_numbers}
use Rattle.entry.proofs.corrected.reading_the_header.Goals as goal

pub returns : goal.returns
returns c = rw c.announced.ensures (correction_numbers.reading_the_header c.args.s.now)
