-- Bytes stored one by one from the first place on; behind them stands what stood there.
--     set_tabulated    one byte more of those that f lists
use mathlib.Core.Path.{◌≡◌, ◌∙◌}
use mathlib.Core.List.{List, ◌++◌}
use Prim.Native.Nat.{ℕ, ◌+◌, ◌<◌}
use native.Mathlib.Numerals.{add-one}
use lib.ListN.{length, drop, set}
use Rattle.chips.proofs.PackingLaws.{length-tabulate}
use Rattle.chips.specs.Packing.{tabulate}
use Rattle.ground.proofs.FrontLaws.{front_store}

pub set_tabulated : (f : ℕ → ℕ) {i x : ℕ} {now : List ℕ} (was : List ℕ) → now ≡ tabulate f i ++ drop i was → x ≡ f i
    → i < length was → set now i x ≡ tabulate f (i + 1) ++ drop (i + 1) was
unfolding tabulate
set_tabulated f {i} was filled e h =
    rw (filled, add-one i, e) (front_store (tabulate f i) was i (length-tabulate f i) (f i) h ∙ rw (add-one i))
