-- `entry::judged::reading_a_word`: what the page says of the definition that the call answers by.
use Rattle.demands.proofs.Demands.{chip_numbers}
use Rattle.entry.proofs.judged.reading_a_word.Goals as goal

pub returns : goal.returns
returns c =
    let a = c.args in
    rw c.step.ensures (chip_numbers.reading_a_word a.code a.s.now a.p)
