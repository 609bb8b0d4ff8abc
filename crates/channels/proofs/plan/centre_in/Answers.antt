-- `channels::plan::centre_in` meets its contract: the sum of floats that it makes is exact, by the computed test.
-- Assumes nothing.
use Rattle.channels.proofs.ExactLaws.{channel_sound}
use Rattle.channels.proofs.plan.centre_in.Goals as goal

pub int_to_float-result : goal.int_to_float-result
int_to_float-result c = (channel_sound _ _ c.requires).channel_in_float

pub returns : goal.returns
returns c =
    rw c.row_at-row.ensures (channel_sound _ _ c.requires).sum_of_float
