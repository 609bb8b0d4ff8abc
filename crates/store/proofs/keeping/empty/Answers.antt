-- `keeping::empty` meets its contract. Assumes nothing.
use borrow.Author.Rules.{rules}
use Rattle.sessions.specs.StoreFile.{meters_bytes}
use Rattle.store.proofs.keeping.empty.Goals as goal

pub returns : goal.returns
unfolding meters_bytes
returns c = search rules
