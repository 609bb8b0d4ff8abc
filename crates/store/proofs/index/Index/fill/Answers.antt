use native.Mathlib.Omega.{arith}
use Rattle.store.proofs.IndexLaws.{indexed_from}
use Rattle.store.proofs.JudgeLaws.{meters_none}
use Rattle.store.proofs.index.Index.fill.Goals as goal

pub invariant_of-self : goal.invariant_of-self
invariant_of-self c =
    let m = c.args.self.now in
    let none = c.requires.0 in
    record {
      octets = m.octets;
      early = omega arith;
      meters = rw none (meters_none m.bytes.now c.args.first (omega arith));
      indexed = rw none (indexed_from c.args.first (rw none at m.indexed));
    }
