-- `entry::judged::decoding`: what the page says of the definition that the call answers by.
use Rattle.demands.proofs.Demands.{chip_numbers}
use Rattle.entry.proofs.judged.decoding.Goals as goal

pub returns : goal.returns
returns c =
    let a = c.args in
    rw c.decode.ensures (chip_numbers.decoding a.code a.s.now _ _ _)
