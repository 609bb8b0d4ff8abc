-- `entry::judged::filtering`: what the page says of the definition that the call answers by, of an array of sixteen.
use Rattle.demands.proofs.Demands.{meter-numbers}
use Rattle.entry.proofs.judged.filtering.Goals as goal

pub returns : goal.returns
returns c =
    let a = c.args in
    rw c.wanted.ensures
    (meter-numbers.filtering a.entries _ a.content.now c.well_formed.0.1.0.1)
