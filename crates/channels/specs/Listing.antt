-- The list of a band (document 01, "Mode N channels"; the column of sub-bands of EN 13757-4:2019, Table 21).
--     letter_of b       the band that a byte names: capital A to D in ASCII
--     band_of s         the band that an input names: one letter, with at most one line feed (10) after it; else none
--     rows_of b         the band's indices: the first, and how many there are
--     channel_line i c h    a line: index, channel, hertz
--     channels_up_to     the lines of one index: channels 0 and up, in hertz; a quarter of a kilohertz is 250 Hz
--     lines_from i n    the lines of the n indices from i on: index, then channel ascending
--     lines_of b        the lines of a band, in the order in which they are listed
--     line_at b k       line k of them, from 0; none behind the last
-- Not here: the text of a line, which the program prints. Assumes nothing.
use Rattle.std.specs.Prelude.{cond, List, [], ◌∷◌, ◌++◌, ℕ, zero, suc, ◌*◌, eqb, Option, Some, None, slice_get}
use Rattle.channels.specs.declared.listing.Band.{Band}
use Rattle.channels.specs.declared.listing.Band.TheVariants.{A, B, C, D}
use Rattle.channels.specs.declared.listing.Rows.{Rows}
use Rattle.channels.specs.declared.listing.Line.{Line}
use Rattle.channels.specs.Table21.{channels_of, quarters_of}

abbrev pub letter_of : ℕ → Option Band
letter_of x =
    cond (eqb x 65) (Some A) (cond (eqb x 66) (Some B) (cond (eqb x 67) (Some C) (cond (eqb x 68) (Some D) None)))

unfoldable pub band_of : List ℕ → Option Band
band_of [] = None
band_of (x ∷ []) = letter_of x
band_of (x ∷ (y ∷ [])) = cond (eqb y 10) (letter_of x) None
band_of (x ∷ (y ∷ (z ∷ s))) = None

abbrev pub rows_of : Option Band → Rows
rows_of (Some A) = record { first = 1; count = 4 }
rows_of (Some B) = record { first = 5; count = 2 }
rows_of (Some C) = record { first = 7; count = 3 }
rows_of (Some D) = record { first = 10; count = 4 }
rows_of None = record { first = 0; count = 0 }

abbrev pub channel_line : ℕ → ℕ → ℕ → Line
channel_line i c h = record { index = i; channel = c; hertz = h }

unfoldable pub channels_up_to : ℕ → ℕ → List Line
channels_up_to i zero = []
channels_up_to i (suc c) = channels_up_to i c ++ (channel_line i c (250 * quarters_of i c) ∷ [])

unfoldable pub lines_from : ℕ → ℕ → List Line
lines_from i zero = []
lines_from i (suc n) = channels_up_to i (channels_of i) ++ lines_from (suc i) n

abbrev pub lines_of : Option Band → List Line
lines_of b = lines_from (rows_of b).first (rows_of b).count

abbrev pub line_at : Option Band → ℕ → Option Line
line_at b k = slice_get (lines_of b) k
