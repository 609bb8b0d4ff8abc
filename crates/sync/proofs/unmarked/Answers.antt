-- The code's patterns are those of the law, which says what lies before the first mark.
use Prim.Native.Nat.{◌*◌, ◌^◌}
use native.Mathlib.Nat.{mod-lt}
use lib.Pow.{pow_pos}
use Rattle.sync.proofs.MarkLaws.{up, turned_not, unmarked_run}
use Rattle.sync.proofs.unmarked.Goals as goal

pub returns : goal.returns
returns c =
    let x = c.args.x in
    let turned_x = turned_not x c.ranges.x.fits in
    let turned_next = turned_not (up x 1) (mod-lt (x * 2 ^ 1) (pow_pos 64)) in
    λ i h inside. unmarked_run x c.args.r i inside (rw (turned_x, turned_next) at h)
