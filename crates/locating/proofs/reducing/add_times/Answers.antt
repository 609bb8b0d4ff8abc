use Rattle.std.proofs.Common.{◌∙◌, arith, sym}
use Rattle.ground.proofs.InPlaceLaws.{in_place_next, in_place_end}
use Rattle.locating.proofs.ReduceLaws.{length_added, added_at}
use Rattle.locating.proofs.reducing.add_times.Goals as goal

pub loop-k-preserved : goal.loop-k-preserved
loop-k-preserved c =
    let a = c.args in
    let k = c.loop-k.k in
    in_place_next _ _ c.loop-k.invariant (omega arith)
    (added_at a.v.now a.p.now a.f (c.told-p ∙ sym c.told-v) k (c.loop-k.invariant.left k (omega arith)) c.times.ensures)

pub returns : goal.returns
returns c =
    let a = c.args in
    in_place_end c.loop-k.invariant (length_added a.v.now a.p.now a.f (c.told-p ∙ sym c.told-v)) (omega arith)
