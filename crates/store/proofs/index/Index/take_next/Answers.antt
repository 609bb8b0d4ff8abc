-- `index::Index::take_next` meets its contract, and leaves an index. Assumes nothing.
use mathlib.Core.Path.{◌∙◌, sym}
use native.Mathlib.Omega.{arith}
use native.Mathlib.Numerals.{add-one}
use borrow.Author.Rules.{rules}
use Rattle.store.proofs.IndexLaws.{indexed_next}
use Rattle.store.proofs.JudgeLaws.{meters_next, wrong_there, twice_there}
use Rattle.store.proofs.PlaceLaws.{found_some, found_none}
use Rattle.store.proofs.index.Index.take_next.Goals as goal

pub returns-then-not-right_meter-clause-refused : goal.returns-then-not-right_meter-clause-refused
returns-then-not-right_meter-clause-refused c =
    let m = c.args.self.now in
    λ is. wrong_there m.bytes.now m.first m.count (search rules)

pub returns-then-is_some-clause-refused : goal.returns-then-is_some-clause-refused
returns-then-is_some-clause-refused c =
    let m = c.args.self.now in
    λ is. twice_there m.bytes.now m.first m.count
    (rw (← c.key_at-address.ensures)
    (found_some c.find.result c.find.ensures (sym c.is_some.ensures ∙ c.if-is_some.true)))

pub invariant_of-self : goal.invariant_of-self
invariant_of-self c =
    let m = c.args.self.now in
    let is = c.key_at-address.ensures in
    record {
      octets = m.octets;
      early = omega arith;
      meters =
          rw (add-one m.count)
          (meters_next m.meters (omega arith) (omega arith) (search rules)
          (rw (← is) (found_none c.find.result c.find.ensures (sym c.is_some.ensures ∙ c.if-is_some.false))));
      indexed = rw (c.slot_of-slot.ensures, is, add-one m.count)
          (indexed_next m.slots m.links m.bytes.now m.first m.count (omega arith) (omega arith) (omega arith)
          m.indexed);
    }
