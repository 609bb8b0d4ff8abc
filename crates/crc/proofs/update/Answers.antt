-- `crc::update` meets its contract: what the definition answers mends the check. Assumes nothing.
use borrow.Author.Tests.{le-leb}
use Rattle.crc.proofs.UpdateLaws.{updating_mends}
use Rattle.crc.proofs.update.Goals as goal

pub returns-clause-mends : goal.returns-clause-mends
returns-clause-mends c near =
    let a = c.args in
    rw (le-leb a.distance 125 near, ← c.share.ensures) at (updating_mends a.old_check a.old a.new a.distance near)
