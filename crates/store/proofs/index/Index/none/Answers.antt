-- `index::Index::none` makes an index: no meter is right and once, and zeros are the table of none. Assumes nothing.
use native.Mathlib.Omega.{arith}
use Rattle.store.proofs.IndexLaws.{indexed_none}
use Rattle.store.proofs.JudgeLaws.{meters_none}
use Rattle.store.proofs.index.Index.none.Goals as goal

pub invariant_of-result : goal.invariant_of-result
invariant_of-result c =
    let s = c.args.bytes.now in
    record {
      octets = λ j. omega (arith, c.type_inv.bytes j);
      early = omega arith;
      meters = meters_none s 0 (omega arith);
      indexed = indexed_none s 0;
    }
