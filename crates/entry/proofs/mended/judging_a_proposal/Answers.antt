-- `entry::mended::judging_a_proposal`: what the page says of the definition that the call answers by.
use Rattle.std.proofs.Common.{rules}
use Rattle.demands.proofs.Demands.{mending_numbers}
use Rattle.entry.proofs.mended.judging_a_proposal.Goals as goal

pub returns : goal.returns
returns c = rw c.judge.ensures (mending_numbers.judging_a_proposal _ c.args.p.now (λ j. search rules) _)
