-- What the table of channels says by its size (EN 13757-4:2019, 10.2, Table 21).
--     entry_of_past           from index 14 on there is no line
--     index_lt               an index that has a channel is below 14
--     sum_below-channels_of    there are 103 channels, indices 0 to 13 together
-- Assumes nothing.
use mathlib.Core.Path.{◌≡◌, refl, ap}
use mathlib.Core.Bool.{Bool, true, false}
use Prim.Native.Nat.{ℕ, zero, suc, ◌+◌, ◌<◌, ◌≤◌}
use native.Mathlib.Nat.{le_of_suc-le-suc}
use native.Mathlib.Omega.{arith}
use lib.Dec.{ltb}
use lib.ListN.{get_or-eq_default}
use borrow.Author.Tests.{ltb-true, ltb-false}
use Rattle.channels.specs.Table21.{Entry, entry, table, entry_of, channels_of}

pub entry_of_past : (i : ℕ) → 14 ≤ i → entry_of i ≡ entry 0 0 0 0
unfolding entry_of table
entry_of_past zero h = refl
entry_of_past (suc i) h = get_or-eq_default table (entry 0 0 0 0) (le_of_suc-le-suc h)

no_channel_past : (i c : ℕ) → c < channels_of i → 14 ≤ i → ⊥
no_channel_past i c h past = omega (arith, ap (λ (e : Entry). e.channels) (entry_of_past i past))

pub index_lt : (i c : ℕ) → c < channels_of i → i < 14
index_lt i c h = by (ltb i 14) refl
  where
    by : (b : Bool) → ltb i 14 ≡ b → i < 14
    by true e = ltb-true i 14 e
    by false e = absurd (no_channel_past i c h (ltb-false i 14 e))

abbrev pub sum_below : (ℕ → ℕ) → ℕ → ℕ
sum_below f zero = 0
sum_below f (suc n) = sum_below f n + f n

pub sum_below-channels_of : sum_below channels_of 14 ≡ 103
unfolding entry_of table
sum_below-channels_of = refl
