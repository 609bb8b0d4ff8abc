-- `judging::in_version_one` meets its contract. Assumes nothing.
use mathlib.Core.Bool.{◌&&◌}
use borrow.Author.Rules.{rules}
use Rattle.sessions.specs.StoreFile.{right_body, whole}
use Rattle.store.proofs.FileLaws.{opened_body}
use Rattle.store.proofs.judging.in_version_one.Goals as goal

pub returns : goal.returns
returns c =
    let s = c.args.index.now.bytes.now in
    let body = c.whole_body in
    opened_body s 1 16384 (right_body 1 s && whole 1 s) body.result body.new.index body.ensures (search rules)
