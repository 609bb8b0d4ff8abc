-- `crc::shares::bit_in` meets its contract: the code tests the highest bit, the definition multiplies by it.
-- Assumes nothing.
use native.Mathlib.Omega.{arith}
use Rattle.crc.proofs.CheckLaws.{bit_in_high, bit_in_low}
use Rattle.crc.proofs.shares.bit_in.Goals as goal

pub returns-then-reg-ge32768 : goal.returns-then-reg-ge32768
returns-then-reg-ge32768 c = bit_in_high _ (omega arith) (omega arith)

pub returns-else-reg-ge32768 : goal.returns-else-reg-ge32768
returns-else-reg-ge32768 c = bit_in_low _ (omega arith)
