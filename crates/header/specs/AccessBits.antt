-- When a meter may be called (EN 13757-4:2019, 12.6.3.2, Table 37; 13.2.7).
--     bit_b cc, bit_a cc    the table's two bits in the byte CC: bit 7, bit 2
--     access_of cc         the access that CC announces
--     access_row a         the answer's value in document 01: the table's row, 0 to 3
-- Not here: the other bits of CC, on which nothing is built.
use Rattle.std.specs.Prelude.{cond, ℕ, ◌/◌, ◌%◌, eqb}
use Rattle.header.specs.declared.access.Access.{Access}
use Rattle.header.specs.declared.access.Access.TheVariants.{NoAccess, NoneForNow, Limited, Unlimited}

abbrev pub bit_b : ℕ → ℕ
bit_b cc = cc / 128 % 2

abbrev pub bit_a : ℕ → ℕ
bit_a cc = cc / 4 % 2

-- the rows 00, 01, 10, 11 in their order
abbrev pub access_of : ℕ → Access
access_of cc =
    cond (eqb (bit_b cc) 0) (cond (eqb (bit_a cc) 0) NoAccess NoneForNow) (cond (eqb (bit_a cc) 0) Limited Unlimited)

-- the row that an access is, as the number of its two bits
abbrev pub access_row : Access → ℕ
access_row NoAccess = 0
access_row NoneForNow = 1
access_row Limited = 2
access_row Unlimited = 3
