use mathlib.Core.Path.{◌≡◌, sym, ap, ◌∙◌}
use Prim.Native.Nat.{ℕ, ◌/◌}
use native.Mathlib.Omega.{arith}
use Rattle.crc.specs.CheckUpdate.{share_of}
use Rattle.crc.proofs.ShareLaws.{share_of_zero, share_of_next}
use Rattle.crc.proofs.shares.share.Goals as goal

pub loop-k-init : goal.loop-k-init
loop-k-init c =
    let a = c.args in
    let none : a.x / 256 ≡ 0 = omega arith in
    sym (ap (λ (y : ℕ). share_of y a.distance) none ∙ share_of_zero a.distance)

pub loop-k-preserved : goal.loop-k-preserved
loop-k-preserved c =
    let at = c.loop-k in
    let a = c.args in
    rw (c.bit_in.ensures, at.invariant, c.from.ensures, c.share_of_one-one.ensures)
    (share_of_next a.x at.k a.distance (omega arith) (omega arith))
