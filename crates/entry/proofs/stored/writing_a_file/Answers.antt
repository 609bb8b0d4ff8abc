-- `entry::stored::writing_a_file`: what the page says of the definition that the call answers by.
use Rattle.std.proofs.Common.{rules}
use Rattle.demands.proofs.Demands.{store-numbers}
use Rattle.entry.proofs.stored.writing_a_file.Goals as goal

pub returns : goal.returns
returns c = rw c.write.ensures (store-numbers.writing_a_file c.args.s.now (λ j. search rules) _)
