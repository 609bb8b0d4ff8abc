-- What the writers leave where nothing is refused.
--     correcting_done    a frame with its correction
--     checking_done      check bytes alone
-- Assumes nothing.
use mathlib.Core.Path.{◌≡◌}
use mathlib.Core.List.{List, ◌++◌}
use Prim.Native.Nat.{ℕ, ◌+◌, ◌≤◌}
use borrow.Author.Tests.{le-ltb}
use lib.ListN.{length, take, drop}
use Rattle.answers.specs.Outcome.{leaving}
use Rattle.frame.specs.declared.Format.{Format}
use Rattle.frame.specs.Formats.{sizes}
use Rattle.std.specs.Prelude.{Ok}
use Rattle.frame.specs.Judging.{judge_of}
use Rattle.codewords.specs.CheckBytes.{checks_of}
use Rattle.codewords.specs.Corrections.{corrected, put_corrected, correcting_of, checking_of}

pub correcting_done : (f : Format) (s d : List ℕ) {z n : ℕ} → judge_of f s ≡ Ok (sizes z n) → z ≤ 223
    → z + 34 ≤ length d
    → correcting_of f s d ≡ leaving (Ok (z + 34)) (corrected (take z s) ++ drop (z + 34) d)
unfolding correcting_of put_corrected
correcting_done f s d {z} judged h room = rw (judged, le-ltb 223 z h, le-ltb (length d) (z + 34) room)

pub checking_done : (w d : List ℕ) → length w ≤ 223 → 32 ≤ length d
    → checking_of w d ≡ leaving (Ok 32) (checks_of w ++ drop 32 d)
unfolding checking_of
checking_done w d h room = rw (le-ltb 223 (length w) h, le-ltb (length d) 32 room)
