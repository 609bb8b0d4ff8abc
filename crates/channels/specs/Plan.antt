-- The mode N channel plan as floats in kilohertz (document 01, "Mode N channels"; EN 13757-4:2019, Table 21).
--     float q          the f64 nearest to q quarters of a kilohertz; ExactLaws shows that it is exact
--     row_of i          the row of index i: first centre, spacing, tolerance; three zeros where there is none (D50)
--     centre_of i c     the centre of channel c of index i, or that there is no such channel
-- Assumes nothing.
use Rattle.std.specs.Prelude.{false, cond, ℕ, ltb, Float, Option, Some, None}
use Rattle.std.specs.Float.{binary64}
use Rattle.std.specs.Float.Ieee.{round}
use Rattle.channels.specs.declared.plan.Row.{Row}
use Rattle.channels.specs.Table21.{entry_of, channels_of, quarters_of}

unfoldable pub float : ℕ → Float
float q = round binary64 false q 4

unfoldable pub row_of : ℕ → Row
row_of i =
    record {
      centre = float (entry_of i).centre;
      spacing = float (entry_of i).spacing;
      tolerance = float (entry_of i).tolerance;
    }

abbrev pub centre_of : ℕ → ℕ → Option Float
centre_of i c = cond (ltb c (channels_of i)) (Some (float (quarters_of i c))) None
