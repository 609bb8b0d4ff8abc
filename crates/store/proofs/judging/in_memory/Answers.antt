-- `judging::in_memory` meets its contract. Assumes nothing.
use borrow.Author.Rules.{rules}
use Rattle.address.specs.Keys.{four_at}
use Rattle.sessions.specs.StoreFile.{right_body}
use Rattle.store.proofs.FileLaws.{opened_body}
use Rattle.store.proofs.judging.in_memory.Goals as goal

pub returns-clause-held : goal.returns-clause-held
returns-clause-held c =
    let s = c.args.index.now.bytes.now in
    let body = c.right_body in
    opened_body s 6 (four_at s 2) (right_body 6 s) body.result body.new.index body.ensures (search rules)
