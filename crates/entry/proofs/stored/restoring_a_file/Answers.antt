-- `entry::stored::restoring_a_file`: what the page says of the definition that the call answers by.
use Rattle.std.proofs.Common.{rules}
use Rattle.demands.proofs.Demands.{store-numbers}
use Rattle.entry.proofs.stored.restoring_a_file.Goals as goal

pub returns : goal.returns
returns c =
    rw c.restore.ensures
    (store-numbers.restoring_a_file _ (λ j. search rules) c.args.file.now (λ j. search rules))
