-- `keeping::look_up` meets its contract. Assumes nothing.
use borrow.Author.Rules.{rules}
use Rattle.store.proofs.OneMeterLaws.{look_none, look_held}
use Rattle.store.proofs.keeping.look_up.Goals as goal

pub returns-in_err-place : goal.returns-in_err-place
returns-in_err-place c =
    let o = rw c.none-held.ensures.0 at c.in_ok-in_memory.ensures.held in
    let none = look_none o c.args.address c.find.result c.find.ensures c.in_err-place.ensures.value in
    search rules

pub returns : goal.returns
returns c =
    let o = rw c.none-held.ensures.0 at c.in_ok-in_memory.ensures.held in
    look_held o c.args.address c.find.result c.find.ensures c.in_ok-place.ensures.value c.at.ensures
