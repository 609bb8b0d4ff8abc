-- What the crate's inner functions promise each other. Nobody has to believe it: no promise of a public function and no
-- demand cites it.
--     entry_as_floats i    the three numbers of index i's row, and how many channels it has
use Rattle.std.specs.Prelude.{ℕ, Float}
use Rattle.channels.specs.Table21.{channels_of}
use Rattle.channels.specs.Plan.{row_of}

abbrev pub entry_as_floats : ℕ → Float × Float × Float × ℕ
entry_as_floats i = ((row_of i).centre, (row_of i).spacing, (row_of i).tolerance, channels_of i)
