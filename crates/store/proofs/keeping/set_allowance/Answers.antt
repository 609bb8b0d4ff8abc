-- `keeping::set_allowance` meets its contract. Assumes nothing.
use Rattle.store.proofs.KeptLaws.{opened_kept}
use Rattle.store.proofs.WholeStoreLaws.{allow_set}
use Rattle.store.proofs.keeping.set_allowance.Goals as goal

pub returns : goal.returns
returns c =
    let o = rw c.none-held.ensures.0 at c.in_ok-in_memory.ensures.held in
    allow_set (opened_kept o) c.args.allowance c.put_number.ensures
