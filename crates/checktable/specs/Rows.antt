-- What the rows of the table are (EN 13757-4:2019, 12.5.7; document 02, 3/14). Nobody needs to believe these words: the
-- crate `crc`, which answers by its own definition of the check, proves from them that it does.
--     step r        a register moved by one digit, the polynomial 3D65h added if a one fell out at the top
--     steps n r     n such steps
--     row_of b       three registers of sixteen digits each, highest first: after the byte b and two zero bytes, after
--                   b and one, after b alone. A byte is fed into 0 by sixteen steps from its number: eight bring it to
--                   the upper half of the register, eight feed it.
use Rattle.std.specs.Prelude.{ℕ, zero, suc, ◌+◌, ◌*◌, ◌/◌, ◌%◌}
use Rattle.std.specs.Int.Bits.{bit_xor}

unfoldable pub step : ℕ → ℕ
step r = bit_xor (r * 2 % 65536) (r / 32768 % 2 * 0x3D65)

unfoldable pub steps : ℕ → ℕ → ℕ
steps zero r = r
steps (suc n) r = steps n (step r)

unfoldable pub row_of : ℕ → ℕ
row_of b = (steps 32 b * 65536 + steps 24 b) * 65536 + steps 16 b
