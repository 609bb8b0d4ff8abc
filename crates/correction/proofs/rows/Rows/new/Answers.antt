-- `correction::rows::Rows::new` meets its contract. The 256 words of the table are compared with what the generator's
-- numbers give, as antt works it out. Assumes nothing.
use Rattle.ground.specs.Sums.{xors}
use Rattle.field.specs.Field.{up, times_bits, mul}
use Rattle.field.specs.Polynomials.{scaled}
use Rattle.address.specs.Names.{same_bytes}
use Rattle.codewords.specs.CheckBytes.{step_in, rem_of}
use Rattle.correction.proofs.RowLaws.{right, rows_right}
use Rattle.correction.proofs.rows.Rows.new.Goals as goal

pub invariant_of-result : goal.invariant_of-result
unfolding right same_bytes rem_of step_in scaled xors mul times_bits up
invariant_of-result c = record { right = rows_right _ tt }
