-- `index::Index::find` meets its contract. The loop's invariant: the meter is found from `next` on in its slot, or
-- nowhere. The measure is `next`: a meter leads to one before it. Assumes nothing.
use Rattle.store.proofs.IndexLaws.{Walk}
use Rattle.store.proofs.index.Index.find.Given as goal

abbrev pub invariant-loop-next : goal.invariant-loop-next
invariant-loop-next l = Walk l.self.bytes.now l.self.first l.self.count l.address l.next

abbrev pub decreases-loop-next : goal.decreases-loop-next
decreases-loop-next l = l.next
