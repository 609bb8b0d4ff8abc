-- `judging::in_version_two` meets its contract. Assumes nothing.
use mathlib.Core.Bool.{◌&&◌}
use borrow.Author.Rules.{rules}
use Rattle.address.specs.Keys.{four_at}
use Rattle.sessions.specs.StoreFile.{right_body, whole}
use Rattle.store.proofs.FileLaws.{opened_body}
use Rattle.store.proofs.judging.in_version_two.Goals as goal

pub returns : goal.returns
returns c =
    let s = c.args.index.now.bytes.now in
    let body = c.whole_body in
    opened_body s 6 (four_at s 2) (right_body 6 s && whole 6 s) body.result body.new.index body.ensures (search rules)
