-- `repairing::scanning::visit` meets its contract. Assumes nothing.
use Rattle.std.proofs.Common.{arith, refl, pos_of_ne-zero}
use Rattle.repairing.proofs.VisitLaws.{skipped, again, moved_on}
use Rattle.repairing.proofs.scanning.visit.Goals as goal

pub returns-then-value_at-ne0 : goal.returns-then-value_at-ne0
returns-then-value_at-ne0 c =
    skipped c.requires c.value_at.ensures c.if-value_at-ne0.true

pub returns-then-y-eq0 : goal.returns-then-y-eq0
returns-then-y-eq0 c =
    again c.requires c.value_at.ensures c.if-value_at-ne0.false c.divide.ensures refl
    c.value_at-y.ensures c.if-y-eq0.true

pub returns : goal.returns
returns c =
    moved_on c.requires c.value_at.ensures c.if-value_at-ne0.false c.divide.ensures refl
    c.value_at-y.ensures (pos_of_ne-zero c.if-y-eq0.false) (omega arith) c.error_at-e.ensures
    c.correct.ensures.added c.correct.ensures.followed
