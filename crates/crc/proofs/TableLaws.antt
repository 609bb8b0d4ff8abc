-- Laws of the table, whose rows are those of the crate `checktable`.
--     steps-bits_in    the table's steps are those of the definition
--     byte_in_table    the register after a byte, by the table's number for what then stands in the register's upper
--                     half: for every register and every byte
--     row_at          what a byte with j bytes behind it adds to the register, cut out of its row
--     low_rows, rows_start, rows_step, rows_end    what a word of forty digits leaves, by the rows of three bytes
-- Assumes nothing.
use mathlib.Core.Path.{◌≡◌, refl, sym, ap, ap₂, ◌∙◌}
use Prim.Native.Nat.{ℕ, zero, suc, ◌+◌, ◌*◌, ◌/◌, ◌%◌, ◌^◌, ◌<◌}
use native.Mathlib.Nat.{div-one, mod-le}
use native.Mathlib.Omega.{arith}
use lib.Bits.{bit_xor, xor_lt, xor_comm, xor_mod, xor_zero_r, xor_shifted}
use lib.Pow.{shr-shr, field, mod-mod-pow}
use Rattle.ground.proofs.XorLaws.{xor-shl, xor_last, xor_assoc}
use Rattle.checktable.specs.Rows.{step, steps, row_of}
use Rattle.checktable.proofs.RowLaws.{row_none, row_one, row_two}
use Rattle.crc.specs.Check.{bit_in, bits_in, byte_in}
use Rattle.crc.specs.Inner.{remainder}
use Rattle.crc.proofs.CheckLaws.{bits_in-xor}
use Rattle.crc.proofs.RemainderLaws.{bits_in-zero, bits_in-add, remainder_small}
use Rattle.crc.proofs.WordLaws.{byte-shifted, remainder_parts}

steps-bits_in : (n r : ℕ) → steps n r ≡ bits_in n r
unfolding steps bits_in step bit_in
steps-bits_in zero r = refl
steps-bits_in (suc n) r = steps-bits_in n (bit_in r)

pub byte_in_table : (r b : ℕ) → r < 65536 → b < 256
    → byte_in r b ≡ bit_xor (r % 256 * 256) (row_of (bit_xor (r / 256) b) % 65536)
unfolding byte_in
byte_in_table r b hr hb =
    let low : r % 256 < 256 = omega arith in
    let whole : r / 256 * 256 + r % 256 ≡ r = omega arith in
    let x = bit_xor (r / 256) b in
    let byte : x < 256 = xor_lt 8 (r / 256) b (omega arith) hb in
    ap (bits_in 8)
    (ap (λ (y : ℕ). bit_xor y (b * 256)) (sym (xor_shifted (r / 256) 8 (r % 256) low ∙ whole))
    ∙ xor_last (r / 256 * 256) (r % 256) (b * 256)
    ∙ ap (λ (y : ℕ). bit_xor y (r % 256)) (sym (xor-shl (r / 256) b 8)))
    ∙ bits_in-xor 8 (x * 256) (r % 256) ∙ xor_comm (bits_in 8 (x * 256)) (bits_in 8 (r % 256))
    ∙ ap₂ bit_xor (sym (byte-shifted (r % 256) low))
    (ap (bits_in 8) (byte-shifted x byte) ∙ bits_in-add 8 8 x ∙ sym (steps-bits_in 16 x) ∙ sym (row_none x byte))

pub row_at : (b j : ℕ) → b < 256 → j < 3 → row_of b / 2 ^ (16 * j) % 65536 ≡ bits_in (8 * j + 16) b
row_at b zero h small = ap (λ (x : ℕ). x % 65536) (div-one (row_of b)) ∙ row_none b h ∙ steps-bits_in 16 b
row_at b (suc zero) h small = row_one b h ∙ steps-bits_in 24 b
row_at b (suc (suc zero)) h small = row_two b h ∙ steps-bits_in 32 b
row_at b (suc (suc (suc j))) h small = absurd (omega arith)

-- what the lowest sixteen digits of u and the j bytes above them leave
abbrev pub low_rows : ℕ → ℕ → ℕ
low_rows u j = bit_xor (u % 65536) (bits_in 16 (remainder (u / 65536 % 2 ^ (8 * j))))

pub rows_start : (u : ℕ) → u % 65536 ≡ low_rows u 0
rows_start u =
    let none : u / 65536 % 1 ≡ 0 = omega arith in
    let empty : bits_in 16 (remainder 0) ≡ 0 = ap (bits_in 16) (remainder_small 0 (omega arith)) ∙ bits_in-zero 16 in
    rw (none, empty, xor_zero_r)

-- one byte more
byte_above : (z j : ℕ) → z < 2 ^ 24 → 8 * j + 8 < 64
    → bits_in 16 (remainder (z % 2 ^ (8 * (j + 1))))
    ≡ bit_xor (bits_in 16 (remainder (z % 2 ^ (8 * j)))) (bits_in (8 * j + 16) (z / 2 ^ (8 * j) % 256))
byte_above z j h small =
    let more : 8 * (j + 1) ≡ 8 + 8 * j = omega arith in
    let y = z % 2 ^ (8 + 8 * j) in
    let b = z / 2 ^ (8 * j) % 256 in
    let low = remainder (z % 2 ^ (8 * j)) in
    ap (λ (n : ℕ). bits_in 16 (remainder (z % 2 ^ n))) more
    ∙ ap (bits_in 16)
    (remainder_parts (8 * j) y (omega arith) (omega (arith, mod-le z (2 ^ (8 + 8 * j))))
    ∙ ap₂ (λ (u v : ℕ). bit_xor (bits_in (8 * j) (remainder u)) (remainder v)) (field z 8 (8 * j))
    (mod-mod-pow z 8 (8 * j))
    ∙ ap (λ (u : ℕ). bit_xor (bits_in (8 * j) u) low) (remainder_small b (omega arith)))
    ∙ bits_in-xor 16 (bits_in (8 * j) b) low ∙ ap (λ (u : ℕ). bit_xor u (bits_in 16 low)) (bits_in-add 16 (8 * j) b)
    ∙ xor_comm (bits_in (8 * j + 16) b) (bits_in 16 low)

pub rows_step : (u sum j : ℕ) → u < 2 ^ 40 → j < 3 → sum % 65536 ≡ low_rows u j
    → bit_xor sum (row_of (u / 2 ^ (16 + 8 * j) % 256) / 2 ^ (16 * j)) % 65536 ≡ low_rows u (j + 1)
rows_step u sum j h small is =
    let b = u / 2 ^ (16 + 8 * j) % 256 in
    let z = u / 65536 in
    xor_mod sum (row_of b / 2 ^ (16 * j)) 16
    ∙ ap₂ bit_xor is
    (row_at b j (omega arith) small ∙ ap (λ (x : ℕ). bits_in (8 * j + 16) (x % 256)) (sym (shr-shr u 16 (8 * j))))
    ∙ xor_assoc (u % 65536) (bits_in 16 (remainder (z % 2 ^ (8 * j)))) (bits_in (8 * j + 16) (z / 2 ^ (8 * j) % 256))
    ∙ ap (bit_xor (u % 65536)) (sym (byte_above z j (omega arith) (omega arith)))

pub rows_end : (u : ℕ) → u < 2 ^ 40 → low_rows u 3 ≡ remainder u
rows_end u h =
    let all : u / 65536 % 2 ^ 24 ≡ u / 65536 = omega arith in
    ap₂ bit_xor (sym (remainder_small (u % 65536) (omega arith))) (ap (λ (x : ℕ). bits_in 16 (remainder x)) all)
    ∙ xor_comm (remainder (u % 65536)) (bits_in 16 (remainder (u / 65536)))
    ∙ sym (remainder_parts 16 u (omega arith) (omega arith))
