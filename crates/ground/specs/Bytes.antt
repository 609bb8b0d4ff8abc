-- Lists of bytes.
--     Bytes s    every element of s is below 256; a place past the end reads as 0, which is
use Rattle.std.specs.Prelude.{List, ℕ, ◌<◌, get_or}

abbrev pub Bytes : List ℕ → Type 0
Bytes s = (j : ℕ) → get_or s j 0 < 256
