-- `mending::proposing::receive` meets its contract. Assumes nothing.
use Rattle.std.proofs.Common.{rules}
use Rattle.proposals.specs.Proposals.{proposing_of, proposing_by}
use Rattle.proposals.specs.Received.{received}
use Rattle.proposals.proofs.PlacedLaws.{nearest_zero}
use Rattle.mending.proofs.proposing.receive.Goals as goal

pub returns : goal.returns
unfolding proposing_of proposing_by
returns c =
    let e = nearest_zero (received c.in_ok-size.field-0.size c.args.s.now) in search rules
