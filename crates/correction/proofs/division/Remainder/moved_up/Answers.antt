-- `correction::division::Remainder::moved_up` meets its contract. Assumes nothing.
use native.Mathlib.Omega.{arith}
use Rattle.correction.proofs.WordLaws.{bytes_of_up}
use Rattle.correction.proofs.division.Remainder.moved_up.Goals as goal

pub returns : goal.returns
returns c = bytes_of_up c.args.self (omega arith) (omega arith) (omega arith)
