-- `frame::read` meets its contract: a refusal of the judgement is passed on and writes nothing; an acceptance with room
-- hands the content over. Assumes nothing.
use mathlib.Core.Path.{sym}
use borrow.Author.Rules.{rules}
use Rattle.frame.specs.Frames.{content_in}
use Rattle.frame.proofs.FormatLaws.{one-lt_first}
use Rattle.frame.proofs.AcceptLaws.{judge_of-accepted, whole_room}
use Rattle.frame.proofs.ReadLaws.{reading_of_refused, reading_of_no_room, reading_of_accepted}
use Rattle.frame.proofs.read.Goals as goal

pub returns-in_err-frame : goal.returns-in_err-frame
returns-in_err-frame c =
    let a = c.args in
    let e = reading_of_refused a.f a.s.now a.out.now (sym c.in_err-frame.ensures) in
    search rules

pub returns-then-out-frame : goal.returns-then-out-frame
returns-then-out-frame c =
    let a = c.args in
    sym (reading_of_no_room a.f a.s.now a.out.now (sym c.in_ok-frame.ensures) c.if-out-frame.true)

pub take_out-requires : goal.take_out-requires
take_out-requires c =
    let a = c.args in
    let w = judge_of-accepted a.f a.s.now (sym c.in_ok-frame.ensures) in
    rw (c.cut.ensures.0, c.cut.ensures.1) (one-lt_first a.f, (c.if-out-frame.false, whole_room w))

pub returns : goal.returns
unfolding content_in
returns c =
    let a = c.args in
    rw (c.take_out.ensures, c.cut.ensures.0, c.cut.ensures.1)
    (sym (reading_of_accepted a.f a.s.now a.out.now (sym c.in_ok-frame.ensures) c.if-out-frame.false))
