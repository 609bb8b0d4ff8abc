-- `entry::judged::frame_size_a`: what the page says of the definition that the call answers by.
use Rattle.frame.specs.declared.Format.{Format}
use Rattle.demands.proofs.Demands.{frame-numbers}
use Rattle.entry.proofs.judged.frame_size_a.Goals as goal

pub returns : goal.returns
returns c = rw c.frame_size.ensures (frame-numbers.frame_size_is Format.A _)
