-- `mending::single::mend_one` meets its contract. Assumes nothing.
use native.Mathlib.Nat.{pos_of_ne-zero}
use native.Mathlib.Omega.{arith}
use mathlib.Core.Path.{sym, ◌∙◌}
use Prim.Native.Nat.{◌-◌}
use Rattle.std.proofs.Common.{rules}
use lib.ListN.{length}
use Rattle.ground.specs.Bytes.{Bytes}
use Rattle.mending.proofs.WordLaws.{clean_tested}
use Rattle.mending.proofs.MendLaws.{clean_nearest, fault_points, none_nearest, still_nearest, tried_nearest}
use Rattle.mending.proofs.single.mend_one.Goals as goal

pub returns-then-eq : goal.returns-then-eq
returns-then-eq c =
    let w = c.args.w.now in
    let bytes : Bytes w = λ j. search rules in
    let tested =
    clean_tested w (length w - 32) bytes (omega (arith, c.requires.0)) c.remainder-rest.ensures c.eq.ensures in
    clean_nearest 1 w bytes c.requires.1 (omega arith) (sym tested ∙ c.if-eq.true)

pub returns-then-fault-ne-LENGTH_BYTE : goal.returns-then-fault-ne-LENGTH_BYTE
returns-then-fault-ne-LENGTH_BYTE c =
    let w = c.args.w.now in
    let size = c.requires in
    let points = fault_points w (λ j. search rules) size.0 size.1 c.remainder-rest.ensures c.in-Some.ensures in
    tried_nearest w points (λ j. search rules) size.1 (pos_of_ne-zero c.if-fault-ne-LENGTH_BYTE.true) c.try_at.ensures

pub returns-else-fault-ne-LENGTH_BYTE : goal.returns-else-fault-ne-LENGTH_BYTE
returns-else-fault-ne-LENGTH_BYTE c =
    let w = c.args.w.now in
    let size = c.requires in
    let points = fault_points w (λ j. search rules) size.0 size.1 c.remainder-rest.ensures c.in-Some.ensures in
    still_nearest w points (λ j. search rules) size.1 c.if-fault-ne-LENGTH_BYTE.false

pub returns-in_default : goal.returns-in_default
returns-in_default c =
    let w = c.args.w.now in
    none_nearest w (λ j. search rules)
    (fault_points w (λ j. search rules) c.requires.0 c.requires.1 c.remainder-rest.ensures c.in_default.ensures)
