-- `correction::division::RemainderBitXor::bitxor` meets its contract. Assumes nothing.
use Rattle.correction.proofs.WordLaws.{bytes_of_xor}
use Rattle.correction.proofs.division.RemainderBitXor.bitxor.Goals as goal

pub returns : goal.returns
returns c = bytes_of_xor c.args.self c.args.n
