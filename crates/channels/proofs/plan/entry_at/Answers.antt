-- The source's table, as floats and numbers, lists `entry_as_floats`, which antt computes.
use lib.Count.{count_trailing_zeros}
use lib.Ieee.{round, size, span, climb, units, odd, of_bits, of_fields}
use Rattle.ground.proofs.TableLaws.{get_or_values}
use Rattle.channels.specs.Table21.{table, entry_of}
use Rattle.channels.specs.Inner.{entry_as_floats}
use Rattle.channels.specs.Plan.{float, row_of}
use Rattle.channels.proofs.Table21Laws.{entry_of_past}
use Rattle.channels.proofs.plan.entry_at.Goals as goal

pub returns-then-index-lt14 : goal.returns-then-index-lt14
unfolding row_of float entry_of table round size span climb units odd count_trailing_zeros of_bits of_fields
returns-then-index-lt14 c = get_or_values entry_as_floats 14 c.args.index _ c.if-index-lt14.true

pub returns-else-index-lt14 : goal.returns-else-index-lt14
unfolding row_of float entry_of table round size span climb units odd count_trailing_zeros of_bits of_fields
returns-else-index-lt14 c = rw (entry_of_past c.args.index c.if-index-lt14.false)
