-- `channels::plan::hertz_in` meets its contract: a thousand times the centre is a whole number, by the computed
-- test. Assumes nothing.
use Rattle.channels.proofs.ExactLaws.{channel_sound}
use Rattle.channels.proofs.plan.hertz_in.Goals as goal

pub float_to_int-result : goal.float_to_int-result
float_to_int-result c =
    rw c.centre_in.ensures (channel_sound _ _ c.requires).hertz_in_unsigned

pub returns : goal.returns
returns c = rw c.centre_in.ensures (channel_sound _ _ c.requires).hertz_quarters
