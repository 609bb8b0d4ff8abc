-- `entry::corrected::check_bytes_alone`: what the page says of the definition that the call answers by.
use Rattle.std.proofs.Common.{rules}
use Rattle.demands.proofs.Demands.{correction_numbers}
use Rattle.entry.proofs.corrected.check_bytes_alone.Goals as goal

pub returns : goal.returns
returns c = rw c.check_bytes.ensures (correction_numbers.check_bytes_alone c.args.word.now (λ j. search rules) _)
