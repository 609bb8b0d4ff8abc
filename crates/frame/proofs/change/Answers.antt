-- `frame::change` meets its contract: a refusal of the judgement is passed on and changes nothing, and so is a place
-- outside the content; else the byte and its check are mended. Assumes nothing.
use mathlib.Core.Path.{sym}
use native.Mathlib.Omega.{arith}
use borrow.Author.Rules.{rules}
use Rattle.frame.proofs.FormatLaws.{first-le, later-le, longest-le}
use Rattle.frame.proofs.AcceptLaws.{judge_of-accepted, whole_room}
use Rattle.frame.proofs.ChangeLaws.{changing_of_refused, changing_of_bad_place, change_mends}
use Rattle.frame.proofs.change.Goals as goal

pub returns-in_err-frame : goal.returns-in_err-frame
returns-in_err-frame c =
    let a = c.args in
    let e = changing_of_refused a.f a.s.now a.place a.byte (sym c.in_err-frame.ensures) in
    search rules

pub returns-then-frame-place : goal.returns-then-frame-place
returns-then-frame-place c =
    let a = c.args in
    sym (changing_of_bad_place a.f a.s.now a.place a.byte (sym c.in_ok-frame.ensures) c.if-frame-place.true)

pub overflow_add-frame : goal.overflow_add-frame
overflow_add-frame c =
    let w = judge_of-accepted c.args.f c.args.s.now (sym c.in_ok-frame.ensures) in
    omega (arith, w.high, longest-le c.args.f)

pub set_byte-requires : goal.set_byte-requires
set_byte-requires c =
    let a = c.args in
    let w = judge_of-accepted a.f a.s.now (sym c.in_ok-frame.ensures) in
    rw (c.cut.ensures.0, c.cut.ensures.1)
    (first-le a.f, (later-le a.f, (omega (arith, c.if-frame-place.false), whole_room w)))

pub returns : goal.returns
returns c =
    let a = c.args in
    rw (c.set_byte.ensures, c.cut.ensures.0, c.cut.ensures.1)
    (sym (change_mends a.f a.s.now a.place a.byte (sym c.in_ok-frame.ensures) c.if-frame-place.false))
