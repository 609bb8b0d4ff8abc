-- A place in a chip buffer (specs/Chips).
--     InBuffer s at      the buffer is not too long, and the place not behind it: what `in_range` tests
--     in_range_inside     such a place is in range
--     in_range_long       in a buffer that is too long no place is
--     in_range_true       a place in range is such a place
--     in_range_kept       so is one for which the test `!in_range(s, at)` failed, as a caller has it at hand
--     in_range_refused    and where that test held the place is out of range
use mathlib.Core.Bool.{Bool, true, false, not, cond}
use mathlib.Core.Path.{◌≡◌, refl, sym, ◌∙◌}
use mathlib.Core.List.{List}
use Prim.Native.Nat.{ℕ, ◌≤◌, ◌<◌}
use borrow.Author.Tests.{le-leb, lt-leb, leb-true, not-true, not-false}
use lib.Dec.{leb}
use lib.ListN.{length}
use Rattle.ground.proofs.CaseLaws.{zero_not_one}
use Rattle.chips.specs.Chips.{chip_count, room_limit, in_range}

pub record InBuffer (s : List ℕ) (at : ℕ) : Type 0 where
  pub small : length s ≤ room_limit
  pub inside : at ≤ chip_count s

pub in_range_inside : {s : List ℕ} {at : ℕ} → InBuffer s at → in_range s at ≡ true
in_range_inside {s} {at} b = rw (le-leb (length s) room_limit b.small, le-leb at (chip_count s) b.inside)

pub in_range_true : {s : List ℕ} {at : ℕ} → in_range s at ≡ true → InBuffer s at
in_range_true {s} {at} e = by_test (leb (length s) room_limit) refl e
  where
    by_test : (t : Bool) → leb (length s) room_limit ≡ t → cond t (leb at (chip_count s)) false ≡ true → InBuffer s at
    by_test true d g = record { small = leb-true (length s) room_limit d; inside = leb-true at (chip_count s) g }
    by_test false d g = absurd (zero_not_one (cc))

pub in_range_kept : {s : List ℕ} {at : ℕ} {t : Bool} → t ≡ in_range s at → not t ≡ false → InBuffer s at
in_range_kept {t = t} e h = in_range_true (sym e ∙ not-false t h)

module _ (s : List ℕ) (at : ℕ) where
  pub in_range_long : room_limit < length s → in_range s at ≡ false
  in_range_long h = rw (lt-leb (length s) room_limit h)

  pub in_range_refused : {t : Bool} → t ≡ in_range s at → not t ≡ true → in_range s at ≡ false
  in_range_refused {t} e h = sym e ∙ not-true t h
