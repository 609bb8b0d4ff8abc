-- `kusikhut::channels_calls::kusikhut_centre`: where there is no centre, the row is the zero of `float`.
use lib.Ieee.{of_bits, round}
use Rattle.std.proofs.Common.{rules}
use Rattle.channels.specs.Plan.{float}
use Rattle.kusikhut.proofs.channels_calls.kusikhut_centre.Goals as goal

pub returns-in_default : goal.returns-in_default
unfolding float of_bits round
returns-in_default c = search rules
