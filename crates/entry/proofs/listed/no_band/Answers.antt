-- `entry::listed::no_band`: what the page says of the definition that the call answers by.
use Rattle.demands.proofs.Demands.{meter-numbers}
use Rattle.entry.proofs.listed.no_band.Goals as goal

pub returns : goal.returns
returns c = rw c.band_of.ensures (meter-numbers.no_band c.args.s.now)
