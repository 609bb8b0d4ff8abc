-- `entry::corrected::writing_a_correction`: what the page says of the definition that the call answers by.
use Rattle.std.proofs.Common.{rules}
use Rattle.demands.proofs.Demands.{correction_numbers}
use Rattle.entry.proofs.corrected.writing_a_correction.Goals as goal

pub returns : goal.returns
returns c = rw c.write.ensures (correction_numbers.writing_a_correction _ c.args.s.now (λ j. search rules) _)
