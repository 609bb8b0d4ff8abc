-- `index::Index::fill` meets its contract. The loop's invariant: the index is over these bytes, and has one meter for
-- each turn. Assumes nothing.
use mathlib.Core.Path.{◌≡◌}
use Rattle.store.proofs.index.Index.fill.Given as goal

abbrev pub invariant-loop : goal.invariant-loop
invariant-loop l =
    (l.self.count ≡ l.counter) × ((l.self.bytes.now ≡ l.fn.self.bytes.now) × (l.self.first ≡ l.first))
