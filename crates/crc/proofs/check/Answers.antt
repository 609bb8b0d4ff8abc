-- `crc::check` meets its contract: the complement of the register. Assumes nothing.
use mathlib.Core.Path.{ap}
use Prim.Native.Nat.{ℕ}
use lib.Bits.{bit_xor}
use Rattle.crc.specs.Check.{check_of}
use Rattle.crc.proofs.check.Goals as goal

pub returns : goal.returns
unfolding check_of
returns c = ap (λ (r : ℕ). bit_xor r 0xFFFF) c.register.ensures
