-- What the proposer leaves in the lent memory.
--     received_put     the frame copied, and the check bytes behind it: the received word, then what stood behind that
-- Assumes nothing.
use mathlib.Core.List.{List, ◌++◌}
use mathlib.Core.Path.{◌≡◌, ap, ◌∙◌}
use Prim.Native.Nat.{ℕ, ◌+◌, ◌-◌, ◌≤◌}
use native.Mathlib.Omega.{arith}
use borrow.Rule.Slice.PartMut.{put_mid}
use lib.ListN.{length, take, drop}
use lib.Seq.{drop-drop, length-take-le}
use Rattle.correction.proofs.PutLaws.{put_behind}
use Rattle.proposals.specs.Received.{received}

pub received_put : (s d : List ℕ) (z : ℕ) → z ≤ length s → {f c : List ℕ} → f ≡ take z s
    → c ≡ take (z + 2 + 32 - (z + 2)) (drop (z + 2) s)
    → put_mid z (z + 32 - z) (f ++ drop z d) c ≡ received z s ++ drop (z + 32) d
received_put s d z there frame checks =
    let all : z + 32 - z ≡ 32 = omega arith in
    let behind : z + 2 + 32 - (z + 2) ≡ 32 = omega arith in
    rw (frame, checks, all, behind)
    (put_behind (take z s) (drop z d) (take 32 (drop (z + 2) s)) z 32 (length-take-le z s there)
    ∙ ap (λ (b : List ℕ). received z s ++ b) (drop-drop 32 z d))
