-- `entry::judged::searching`: what the page says of the definition that the call answers by.
use Rattle.demands.proofs.Demands.{chip_numbers}
use Rattle.entry.proofs.judged.searching.Goals as goal

pub returns : goal.returns
returns c = rw c.search.ensures (chip_numbers.searching _ _ _)
