-- Laws of the table's rows (specs/Rows), for whoever looks a number up.
--     steps-lt        a register has sixteen digits
--     row_none .. row_two   the register with no zero byte behind the byte, with one, with two, cut out of the row
-- Assumes nothing.
use mathlib.Core.Path.{◌≡◌}
use Prim.Native.Nat.{ℕ, zero, suc, ◌*◌, ◌/◌, ◌%◌, ◌<◌}
use native.Mathlib.Omega.{arith}
use lib.Bits.{xor_lt}
use Rattle.checktable.specs.Rows.{step, steps, row_of}

step-lt : (r : ℕ) → step r < 65536
unfolding step
step-lt r = xor_lt 16 (r * 2 % 65536) (r / 32768 % 2 * 0x3D65) (omega arith) (omega arith)

pub steps-lt : (n r : ℕ) → r < 65536 → steps n r < 65536
unfolding steps
steps-lt zero r h = h
steps-lt (suc n) r h = steps-lt n (step r) (step-lt r)

pub row_none : (b : ℕ) → b < 256 → row_of b % 65536 ≡ steps 16 b
unfolding row_of
row_none b h = omega (arith, steps-lt 16 b (omega arith))

pub row_one : (b : ℕ) → b < 256 → row_of b / 65536 % 65536 ≡ steps 24 b
unfolding row_of
row_one b h = omega (arith, steps-lt 16 b (omega arith), steps-lt 24 b (omega arith))

pub row_two : (b : ℕ) → b < 256 → row_of b / 4294967296 % 65536 ≡ steps 32 b
unfolding row_of
row_two b h =
    omega (arith, steps-lt 16 b (omega arith), steps-lt 24 b (omega arith), steps-lt 32 b (omega arith))
