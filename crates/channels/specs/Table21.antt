-- Frequencies and channels of mode N (EN 13757-4:2019, 10.2, Table 21).
--     k_hz w h            w + h / 100 kilohertz, as a count of quarters of a kilohertz: every number here is whole
--     Entry              a line of the table: first centre, spacing, tolerance, number of channels
--     table              its lines, index 1 first; `0 ≤ n ≤ 5` is six channels, `n = 0` is one
--     entry_of i          the line of index i; all zeros where the table has none
--     channels_of i       how many channels index i has, numbered from 0
--     quarters_of i c     the centre of channel c of index i, in quarters of a kilohertz: c steps above the first
--                         centre
-- A step between channels equals the spacing; lines 4, 5 and 6 have one channel and so no step.
-- Not here: the columns of bit rates, on which nothing is built. Assumes nothing.
use Rattle.std.specs.Prelude.{List, [], ◌∷◌, ℕ, zero, suc, ◌+◌, ◌*◌, ◌/◌, get_or}

abbrev pub k_hz : ℕ → ℕ → ℕ
k_hz w h = 4 * w + h / 25

pub record Entry : Type 0 where
  pub centre : ℕ
  pub spacing : ℕ
  pub tolerance : ℕ
  pub channels : ℕ

abbrev pub entry : ℕ → ℕ → ℕ → ℕ → Entry
entry f s t n = record { centre = f; spacing = s; tolerance = t; channels = n }

unfoldable pub table : List Entry
table =
    entry (k_hz 169406 25) (k_hz 12 50) (k_hz 2 0) 6
    ∷ entry (k_hz 169406 25) (k_hz 12 50) (k_hz 1 50) 6
    ∷ entry (k_hz 169406 25) (k_hz 12 50) (k_hz 1 50) 6
    ∷ entry (k_hz 169437 50) (k_hz 50 0) (k_hz 2 50) 1
    ∷ entry (k_hz 169481 25) (k_hz 12 50) (k_hz 2 0) 1
    ∷ entry (k_hz 169481 25) (k_hz 12 50) (k_hz 1 50) 1
    ∷ entry (k_hz 169493 75) (k_hz 12 50) (k_hz 1 50) 8
    ∷ entry (k_hz 169493 75) (k_hz 12 50) (k_hz 1 50) 8
    ∷ entry (k_hz 169493 75) (k_hz 12 50) (k_hz 1 50) 8
    ∷ entry (k_hz 169593 75) (k_hz 12 50) (k_hz 2 0) 18
    ∷ entry (k_hz 169593 75) (k_hz 12 50) (k_hz 1 50) 18
    ∷ entry (k_hz 169593 75) (k_hz 12 50) (k_hz 1 50) 18
    ∷ entry (k_hz 169625 0) (k_hz 50 0) (k_hz 2 50) 4
    ∷ []

unfoldable pub entry_of : ℕ → Entry
entry_of zero = entry 0 0 0 0
entry_of (suc k) = get_or table k (entry 0 0 0 0)

abbrev pub channels_of : ℕ → ℕ
channels_of i = (entry_of i).channels

abbrev pub quarters_of : ℕ → ℕ → ℕ
quarters_of i c = (entry_of i).centre + (entry_of i).spacing * c
