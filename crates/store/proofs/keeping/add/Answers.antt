-- `keeping::add` meets its contract. Assumes nothing.
use mathlib.Core.Path.{◌∙◌}
use native.Mathlib.Omega.{arith}
use Rattle.store.proofs.HeldLaws.{or_behind}
use Rattle.store.proofs.KeptLaws.{opened_kept}
use Rattle.store.proofs.OneMeterLaws.{add_full, add_put}
use Rattle.store.proofs.keeping.add.Goals as goal

pub returns-then-place-ge-LIMIT : goal.returns-then-place-ge-LIMIT
returns-then-place-ge-LIMIT c =
    let o = rw c.none-held.ensures.0 at c.in_ok-in_memory.ensures.held in
    add_full (opened_kept o) c.args.address _
    (rw (o.over, o.begins) at (c.unwrap_or-place.ensures ∙ or_behind c.find.result _ c.find.ensures)) c.args.mode
    c.args.format (omega arith)

pub returns : goal.returns
returns c =
    let o = rw c.none-held.ensures.0 at c.in_ok-in_memory.ensures.held in
    add_put (opened_kept o) c.args.address _
    (rw (o.over, o.begins) at (c.unwrap_or-place.ensures ∙ or_behind c.find.result _ c.find.ensures)) c.args.mode
    c.args.format (omega arith) c.known-own.ensures c.keep.ensures.0 c.keep.ensures.1
