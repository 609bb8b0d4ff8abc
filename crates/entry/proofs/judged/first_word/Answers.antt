-- `entry::judged::first_word`: what the page says of the definition that the call answers by.
use Rattle.chipreader.specs.Steps.{start_of}
use Rattle.demands.proofs.Demands.{chip_numbers}
use Rattle.entry.proofs.judged.first_word.Goals as goal

pub returns : goal.returns
returns c =
    let a = c.args in
    let s = a.s.now in
    rw c.first.ensures (chip_numbers.reading_a_word a.code s (start_of s a.at))
