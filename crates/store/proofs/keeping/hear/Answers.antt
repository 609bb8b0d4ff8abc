-- `keeping::hear` meets its contract. Assumes nothing.
use borrow.Author.Rules.{rules}
use Rattle.store.proofs.OneMeterLaws.{hear_none, hear_held}
use Rattle.store.proofs.keeping.hear.Goals as goal

pub returns-in_err-place : goal.returns-in_err-place
returns-in_err-place c =
    let o = rw c.none-held.ensures.0 at c.in_ok-in_memory.ensures.held in
    let none = hear_none o c.args.address c.find.result c.find.ensures c.in_err-place.ensures.value c.args.number in
    search rules

pub returns : goal.returns
returns c =
    let o = rw c.none-held.ensures.0 at c.in_ok-in_memory.ensures.held in
    hear_held o c.args.address c.find.result c.find.ensures c.in_ok-place.ensures.value c.at-own.ensures
    c.args.number c.keep.ensures.0 (rw (← c.max.ensures) c.keep.ensures.1)
