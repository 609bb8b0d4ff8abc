-- The field of 256 elements (EN 13757-4:2019, 12.8.3.2, which names CCSDS 131.0-B-2, 4.3.3): alpha is a root of
-- x^8 + x^7 + x^2 + x + 1. A byte is the sum of those alpha^i whose bit i is set (conventional basis, house), so sums
-- are `bit_xor`, and minus is plus.
--     up a               a times alpha: shifted left, and alpha^8, where it comes up, is alpha^7 + alpha^2 + alpha + 1
--     times_bits n a b    a times the lowest n bits of b
--     mul a b            a times b
--     alpha_to n          alpha^n
-- Proved are the laws of sums and products (order, brackets, a sum's product: proofs/FieldLaws), and that the powers of
-- alpha are all elements but 0 and no two of these have the product 0 (proofs/PrimitiveLaws).
use Rattle.std.specs.Prelude.{ℕ, zero, suc, ◌*◌, ◌/◌, ◌%◌}
use Rattle.std.specs.Int.Bits.{bit_xor}

unfoldable pub up : ℕ → ℕ
up a = bit_xor (a * 2 % 256) (a / 128 % 2 * 0b10000111)

unfoldable pub times_bits : ℕ → ℕ → ℕ → ℕ
times_bits zero a b = 0
times_bits (suc n) a b = bit_xor (b % 2 * a) (times_bits n (up a) (b / 2))

unfoldable pub mul : ℕ → ℕ → ℕ
mul a b = times_bits 8 a b

unfoldable pub alpha_to : ℕ → ℕ
alpha_to zero = 1
alpha_to (suc n) = up (alpha_to n)
