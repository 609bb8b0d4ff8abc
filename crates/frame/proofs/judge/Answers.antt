-- `frame::judge` meets its contract: each return is one case of the judgement, in the order of the tests.
-- Assumes nothing.
use mathlib.Core.Path.{◌≡◌, ap, sym, ◌∙◌}
use Prim.Native.Nat.{◌≤◌}
use native.Mathlib.Omega.{arith}
use borrow.Author.Rules.{rules}
use lib.ListN.{length}
use Rattle.frame.specs.Formats.{frame_size}
use Rattle.frame.specs.Judging.{by_checks, judge_of}
use Rattle.frame.proofs.JudgeLaws.{size_for_accepted, judge_of-nil, judge_of_refused, judge_of_short, judge_of_whole}
use Rattle.frame.proofs.judge.Goals.{After-first_wrong}
use Rattle.frame.proofs.judge.Goals as goal

-- where all bytes are there, the checks decide
checked :
    (c : After-first_wrong)
    → let a = c.args in
    let frame = c.in_ok-frame.frame in
    by_checks frame.size frame.n c.first_wrong.result ≡ judge_of a.f a.s.now
checked c =
    let a = c.args in
    ap (by_checks _ _) (rw (c.cut.ensures.0, c.cut.ensures.1) at c.first_wrong.ensures)
    ∙ sym (judge_of_whole a.f a.s.now (search rules) (sym c.in_ok-frame.ensures) c.if-s-frame.false)

pub returns-then-is_empty : goal.returns-then-is_empty
returns-then-is_empty c = sym (judge_of-nil c.args.f c.args.s.now (search rules))

pub returns-in_err-frame : goal.returns-in_err-frame
returns-in_err-frame c =
    let a = c.args in
    let e = judge_of_refused a.f a.s.now (search rules) (sym c.in_err-frame.ensures) in
    search rules

pub returns-then-s-frame : goal.returns-then-s-frame
returns-then-s-frame c =
    let a = c.args in
    sym (judge_of_short a.f a.s.now (search rules) (sym c.in_ok-frame.ensures) c.if-s-frame.true)

pub first_wrong-requires : goal.first_wrong-requires
unfolding frame_size
first_wrong-requires c =
    let a = c.args in
    let p = size_for_accepted a.f _ (sym c.in_ok-frame.ensures) in
    let fits : frame_size a.f c.in_ok-frame.frame.n ≤ length a.s.now
    = omega (arith, p.size, c.if-s-frame.false) in
    rw (c.cut.ensures.0, c.cut.ensures.1) fits

pub returns-in-Some : goal.returns-in-Some
unfolding by_checks
returns-in-Some c = ap (by_checks _ _) (sym c.in-Some.is) ∙ checked (goal.at.returns-in-Some c).After-first_wrong

pub returns-in-None : goal.returns-in-None
unfolding by_checks
returns-in-None c = ap (by_checks _ _) (sym c.in-None.is) ∙ checked (goal.at.returns-in-None c).After-first_wrong
