use mathlib.Core.Path.{sym}
use native.Mathlib.Omega.{arith}
use Rattle.sync.proofs.TailLaws.{begins_there}
use Rattle.radio.proofs.receive.Goals as goal

-- the sync chips of a kind that a tail told are all there
pub frame_after-requires : goal.frame_after-requires
frame_after-requires c =
    let there = begins_there c.args.s.now c.in_ok-found.found.place _ (sym c.in_ok-kind.ensures) in
    omega (arith, there.0, there.1)
