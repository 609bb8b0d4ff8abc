-- `entry::stored::asking_the_allowance`: what the page says of the definition that the call answers by.
use Rattle.std.proofs.Common.{rules}
use Rattle.demands.proofs.Demands.{store-numbers}
use Rattle.entry.proofs.stored.asking_the_allowance.Goals as goal

pub returns : goal.returns
returns c = rw c.allowance.ensures (store-numbers.asking_the_allowance c.args.s.now (λ j. search rules))
