-- `entry::mended::proposing_for_sixteen_bytes`: what the page says of the definition that the call answers by.
use Rattle.std.proofs.Common.{rules}
use Rattle.demands.proofs.Demands.{mending_numbers}
use Rattle.entry.proofs.mended.proposing_for_sixteen_bytes.Goals as goal

pub returns : goal.returns
returns c = rw c.propose.ensures (mending_numbers.proposing_for_sixteen_bytes _ c.args.s.now (λ j. search rules) _)
