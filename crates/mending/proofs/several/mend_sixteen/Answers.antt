-- `mending::several::mend_sixteen` meets its contract. Assumes nothing.
use native.Mathlib.Omega.{arith}
use Rattle.std.proofs.Common.{rules}
use mathlib.Core.Path.{refl, sym, ◌∙◌}
use Prim.Native.Nat.{◌-◌}
use lib.ListN.{length}
use Rattle.ground.specs.Bytes.{Bytes}
use Rattle.mending.proofs.WordLaws.{clean_tested}
use Rattle.mending.proofs.MendLaws.{clean_nearest, remains}
use Rattle.mending.proofs.several.mend_sixteen.Goals as goal

pub returns-then-eq : goal.returns-then-eq
returns-then-eq c =
    let w = c.args.w.now in
    let bytes : Bytes w = λ j. search rules in
    let tested = clean_tested w (length w - 32) bytes (omega arith) c.remainder-rest.ensures c.eq.ensures in
    (refl, clean_nearest 16 w bytes c.requires.1 (omega arith) (sym tested ∙ c.if-eq.true))

pub repair-requires : goal.repair-requires
repair-requires c =
    let size = c.requires in
    let bytes : Bytes c.args.w.now = λ j. search rules in
    (omega (arith, size.0), (size.1, remains c.args.w.now bytes size.0 c.remainder-rest.ensures))
