-- `checktable::row` meets its contract: each row is worked out bit by bit and compared with the one in the source.
-- Assumes nothing.
use native.Mathlib.Omega.{arith}
use Rattle.checktable.specs.Rows.{step, steps, row_of}
use Rattle.checktable.specs.declared.TheConstants.{ROWS}
use Rattle.checktable.proofs.TableLaws.{are_rows, rows_at}
use Rattle.checktable.proofs.row.Goals as goal

pub returns : goal.returns
unfolding step steps row_of are_rows
returns c = rw c.from.ensures (rows_at ROWS 256 c.args.b tt (omega arith))
