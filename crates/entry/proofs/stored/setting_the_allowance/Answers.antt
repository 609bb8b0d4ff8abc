-- `entry::stored::setting_the_allowance`: what the page says of the definition that the call answers by.
use Rattle.std.proofs.Common.{rules}
use Rattle.demands.proofs.Demands.{store-numbers}
use Rattle.entry.proofs.stored.setting_the_allowance.Goals as goal

pub returns : goal.returns
returns c = rw c.set_allowance.ensures (store-numbers.setting_the_allowance _ (λ j. search rules) _)
