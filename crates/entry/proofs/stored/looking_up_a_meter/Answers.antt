-- `entry::stored::looking_up_a_meter`: what the page says of the definition that the call answers by.
use Rattle.std.proofs.Common.{rules}
use Rattle.demands.proofs.Demands.{store-numbers}
use Rattle.entry.proofs.stored.looking_up_a_meter.Goals as goal

pub returns : goal.returns
returns c = rw c.look_up.ensures (store-numbers.looking_up_a_meter c.args.s.now (λ j. search rules) _)
