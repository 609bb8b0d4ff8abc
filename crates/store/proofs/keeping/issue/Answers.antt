-- `keeping::issue` meets its contract. Assumes nothing.
use Prim.Native.Nat.{◌+◌}
use native.Mathlib.Omega.{arith}
use borrow.Author.Rules.{rules}
use Rattle.store.proofs.HeldLaws.{next_number, used_up}
use Rattle.store.proofs.OneMeterLaws.{issue_none, issue_unsure, issue_last, issue_held}
use Rattle.store.proofs.keeping.issue.Goals as goal

pub returns-in_err-place : goal.returns-in_err-place
returns-in_err-place c =
    let o = rw c.none-held.ensures.0 at c.in_ok-in_memory.ensures.held in
    let none = issue_none o c.args.address c.find.result c.find.ensures c.in_err-place.ensures.value in
    search rules

pub returns-then-own : goal.returns-then-own
returns-then-own c =
    let o = rw c.none-held.ensures.0 at c.in_ok-in_memory.ensures.held in
    issue_unsure o c.args.address c.find.result c.find.ensures c.in_ok-place.ensures.value c.at-own.ensures
    c.if-own.true

pub returns-in_err-number : goal.returns-in_err-number
returns-in_err-number c =
    let o = rw c.none-held.ensures.0 at c.in_ok-in_memory.ensures.held in
    let used = used_up c.checked_add.result (c.at-own.result.number + 1) c.checked_add.ensures
    c.in_err-number.ensures.value in
    let last = issue_last o c.args.address c.find.result c.find.ensures c.in_ok-place.ensures.value
    c.at-own.ensures c.if-own.false (omega (arith, used.0)) in
    search rules

pub returns : goal.returns
returns c =
    let o = rw c.none-held.ensures.0 at c.in_ok-in_memory.ensures.held in
    let next = next_number c.checked_add.result c.checked_add.ensures c.in_ok-number.ensures.value in
    rw next.1
    (issue_held o c.args.address c.find.result c.find.ensures c.in_ok-place.ensures.value c.at-own.ensures
    c.if-own.false next.0 (rw (← next.1) c.keep.ensures.1))
