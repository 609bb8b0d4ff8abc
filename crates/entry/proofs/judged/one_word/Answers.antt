-- `entry::judged::one_word`: what the page says of the definition that the call answers by.
use Rattle.demands.proofs.Demands.{chip_numbers}
use Rattle.entry.proofs.judged.one_word.Goals as goal

pub returns : goal.returns
returns c =
    let a = c.args in
    rw c.word_at.ensures (chip_numbers.one_word a.code a.s.now _)
