-- The top bit of M where it stands in a content (EN 13757-4:2019, 12.5.5, byte order 12.2; document 02, 2/14).
--     top_turned s    the content s with that bit turned: the highest of byte 2, M's second
use Rattle.std.specs.Prelude.{List, ℕ, get_or, set}
use Rattle.std.specs.Int.Bits.{bit_xor}

abbrev pub top_turned : List ℕ → List ℕ
top_turned s = set s 2 (bit_xor (get_or s 2 0) 0x80)
