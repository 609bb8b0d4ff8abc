-- The block check (EN 13757-4:2019, 12.5.7; bit order: C.2.2): x^16+x^13+x^12+x^11+x^10+x^8+x^6+x^5+x^2+1, register 0
-- at the start, highest bit of a byte first, the result complemented.
--     bit_in r       the register after one bit: shifted left, the polynomial 3D65h added if a one fell out at the top
--     bits_in n r    n such steps
--     byte_in r b    the byte b is added to the register's upper half, then eight steps
--     reg_of r bs    the register after the bytes bs, first byte first
--     check_of bs    the check of the bytes bs
-- The high byte is sent first (12.2): that is said where frames are laid out. `bit_xor` is addition of bit patterns.
use Rattle.std.specs.Prelude.{List, [], ◌∷◌, ℕ, zero, suc, ◌*◌, ◌/◌, ◌%◌}
use Rattle.std.specs.Int.Bits.{bit_xor}

unfoldable pub bit_in : ℕ → ℕ
bit_in r = bit_xor (r * 2 % 65536) (r / 32768 % 2 * 0x3D65)

unfoldable pub bits_in : ℕ → ℕ → ℕ
bits_in zero r = r
bits_in (suc n) r = bits_in n (bit_in r)

unfoldable pub byte_in : ℕ → ℕ → ℕ
byte_in r b = bits_in 8 (bit_xor r (b * 256))

unfoldable pub reg_of : ℕ → List ℕ → ℕ
reg_of r [] = r
reg_of r (b ∷ bs) = reg_of (byte_in r b) bs

unfoldable pub check_of : List ℕ → ℕ
check_of bs = bit_xor (reg_of 0 bs) 0xFFFF
