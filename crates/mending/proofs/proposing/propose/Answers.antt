-- `mending::proposing::propose` meets its contract. Assumes nothing.
use native.Mathlib.Omega.{arith}
use Rattle.std.proofs.Common.{rules}
use Rattle.proposals.proofs.PlacedLaws.{Placed, placed, refused_alike, length_word, room_in, proposal_put, again_room, placed_again}
use Rattle.mending.proofs.proposing.propose.Goals.{In_ok-n}
use Rattle.mending.proofs.proposing.propose.Goals as goal

-- the received word, placed
word : (c : In_ok-n) → let a = c.args in Placed 0 a.f a.s.now a.out.now c.in_ok-n.n c.receive.new.out
word c = let a = c.args in placed 0 a.f a.s.now a.out.now c.in_ok-n.ensures

pub returns-in_err-n : goal.returns-in_err-n
returns-in_err-n c =
    let a = c.args in
    let e = refused_alike a.f a.s.now a.out.now c.in_err-n.ensures 16 in search rules

pub slice_bounds-mend_sixteen-end : goal.slice_bounds-mend_sixteen-end
slice_bounds-mend_sixteen-end c = room_in (word (goal.at.slice_bounds-mend_sixteen-end c).In_ok-n)

pub slice_bounds-mend_sixteen-end-2 : goal.slice_bounds-mend_sixteen-end-2
slice_bounds-mend_sixteen-end-2 c =
    let w = word (goal.at.slice_bounds-mend_sixteen-end-2 c).In_ok-n in omega (arith, w.is, length_word w)

pub mend_sixteen-requires : goal.mend_sixteen-requires
mend_sixteen-requires c =
    let w = word (goal.at.mend_sixteen-requires c).In_ok-n in
    (omega (arith, length_word w), omega (arith, length_word w, w.most))

pub overflow_sub-n : goal.overflow_sub-n
overflow_sub-n c = omega (arith, (word (goal.at.overflow_sub-n c).In_ok-n).is)

pub put_received-requires : goal.put_received-requires
put_received-requires c =
    let w = word (goal.at.put_received-requires c).In_ok-n in
    (omega (arith, w.is, w.there), again_room w c.mend_sixteen.new.w c.mend_sixteen.ensures.0)

pub returns-then-not-mend_sixteen : goal.returns-then-not-mend_sixteen
returns-then-not-mend_sixteen c =
    placed_again (word (goal.at.returns-then-not-mend_sixteen c).In_ok-n) 16 c.mend_sixteen.new.w
    c.mend_sixteen.ensures.0 c.put_received.ensures (rw c.if-not-mend_sixteen.true at c.mend_sixteen.ensures.1)

pub returns-else-not-mend_sixteen : goal.returns-else-not-mend_sixteen
returns-else-not-mend_sixteen c =
    proposal_put (word (goal.at.returns-else-not-mend_sixteen c).In_ok-n) 16
    (rw c.if-not-mend_sixteen.false at c.mend_sixteen.ensures.1)
