-- `entry::judged::updating_a_check`: what the page says of the definition that the call answers by.
use Rattle.demands.proofs.Demands.{frame-numbers}
use Rattle.entry.proofs.judged.updating_a_check.Goals as goal

pub returns : goal.returns
returns c =
    let a = c.args in
    rw c.update.ensures.settles (frame-numbers.updating_a_check a.check a.old a.new _)
