-- Worked examples, computed: Table 21 of EN 13757-4:2019 (10.2) as document 01, "Mode N channels", gives it, index by
-- index, held against the definition. Numbers are quarters of a kilohertz: 12.5 k_hz are 50 of them, 2.0 k_hz are 8.
--     entry_of_worked        first centre, spacing, tolerance, channels of indices 1 to 13; zeros on both sides of them
--     quarters_of_worked     the last centre of an index of several channels, and document 01's band B
use mathlib.Core.List.{List, [], ◌∷◌, map}
use mathlib.Core.Path.{◌≡◌, refl}
use Prim.Native.Nat.{ℕ, ◌*◌}
use Rattle.channels.specs.Table21.{table, entry_of, quarters_of}

abbrev columns : ℕ → List ℕ
columns i = (entry_of i).centre ∷ (entry_of i).spacing ∷ (entry_of i).tolerance ∷ (entry_of i).channels ∷ []

abbrev row : ℕ → ℕ → ℕ → ℕ → List ℕ
row centre spacing tolerance channels = centre ∷ spacing ∷ tolerance ∷ channels ∷ []

pub entry_of_worked :
    map columns (0 ∷ 1 ∷ 2 ∷ 3 ∷ 4 ∷ 5 ∷ 6 ∷ 7 ∷ 8 ∷ 9 ∷ 10 ∷ 11 ∷ 12 ∷ 13 ∷ 14 ∷ [])
    ≡ row 0 0 0 0  -- no index 0
    ∷ row 677625 50 8 6  -- 1: 169406.25 k_hz, spacing 12.5, tolerance 2.0, six channels
    ∷ row 677625 50 6 6  -- 2, 3: the same, tolerance 1.5
    ∷ row 677625 50 6 6
    ∷ row 677750 200 10 1  -- 4: 169437.5, spacing 50, tolerance 2.5, one channel
    ∷ row 677925 50 8 1  -- 5: 169481.25, 12.5, 2.0, one
    ∷ row 677925 50 6 1  -- 6: 169481.25, 12.5, 1.5, one
    ∷ row 677975 50 6 8  -- 7, 8, 9: 169493.75, 12.5, 1.5, eight
    ∷ row 677975 50 6 8
    ∷ row 677975 50 6 8
    ∷ row 678375 50 8 18  -- 10: 169593.75, 12.5, 2.0, eighteen
    ∷ row 678375 50 6 18  -- 11, 12: the same, 1.5
    ∷ row 678375 50 6 18
    ∷ row 678500 200 10 4  -- 13: 169625, 50, 2.5, four
    ∷ row 0 0 0 0  -- no index 14
    ∷ []
unfolding entry_of table
entry_of_worked = refl

-- 169406.25 + 5 * 12.5 = 169468.75; 169593.75 + 17 * 12.5 = 169806.25; 169625 + 3 * 50 = 169775; 169481.25 twice
pub quarters_of_worked :
    quarters_of 1 5 ∷ quarters_of 10 17 ∷ quarters_of 13 3 ∷ 250 * quarters_of 5 0 ∷ 250 * quarters_of 6 0 ∷ []
    ≡ 677875 ∷ 679225 ∷ 679100 ∷ 169481250 ∷ 169481250 ∷ []
unfolding entry_of table
quarters_of_worked = refl
