-- `mending::proposing::propose_one` meets its contract. Assumes nothing.
use native.Mathlib.Omega.{arith}
use Rattle.std.proofs.Common.{rules}
use Rattle.proposals.proofs.PlacedLaws.{Placed, placed, refused_alike, length_word, room_in, proposal_put}
use Rattle.mending.proofs.proposing.propose_one.Goals.{In_ok-n}
use Rattle.mending.proofs.proposing.propose_one.Goals as goal

-- the received word, placed
word : (c : In_ok-n) → let a = c.args in Placed 0 a.f a.s.now a.out.now c.in_ok-n.n c.receive.new.out
word c = let a = c.args in placed 0 a.f a.s.now a.out.now c.in_ok-n.ensures

pub returns-in_err-n : goal.returns-in_err-n
returns-in_err-n c =
    let a = c.args in
    let e = refused_alike a.f a.s.now a.out.now c.in_err-n.ensures 1 in search rules

pub slice_bounds-mend_one-end : goal.slice_bounds-mend_one-end
slice_bounds-mend_one-end c = room_in (word (goal.at.slice_bounds-mend_one-end c).In_ok-n)

pub slice_bounds-mend_one-end-2 : goal.slice_bounds-mend_one-end-2
slice_bounds-mend_one-end-2 c =
    let w = word (goal.at.slice_bounds-mend_one-end-2 c).In_ok-n in omega (arith, w.is, length_word w)

pub mend_one-requires : goal.mend_one-requires
mend_one-requires c =
    let w = word (goal.at.mend_one-requires c).In_ok-n in
    (omega (arith, length_word w), omega (arith, length_word w, w.most))

pub returns : goal.returns
returns c = proposal_put (word (goal.at.returns c).In_ok-n) 1 c.mend_one.ensures
