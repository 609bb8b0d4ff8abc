-- `entry::judged::encoding`: what the page says of the definition that the call answers by.
use Rattle.demands.proofs.Demands.{chip_numbers}
use Rattle.entry.proofs.judged.encoding.Goals as goal

pub returns : goal.returns
returns c =
    let a = c.args in
    rw c.encode.ensures (chip_numbers.encoding a.code a.s.now _)
