use native.Mathlib.Omega.{arith}
use mathlib.Core.Path.{ap, ◌∙◌}
use Prim.Native.Nat.{◌-◌}
use lib.ListN.{length, drop, length-drop}
use Rattle.ground.specs.Sums.{xors}
use Rattle.codewords.proofs.DivisionLaws.{length-checks_of}
use Rattle.mending.proofs.WordLaws.{sum_next, sum_end}
use Rattle.mending.proofs.words.remainder.Goals as goal

pub loop-i-preserved : goal.loop-i-preserved
loop-i-preserved c =
    let w = c.args.w.now in
    let end = length w - 32 in
    let long = ap length c.checks-rest.ensures ∙ length-checks_of _ in
    sum_next w c.checks-rest.result end (omega (arith, long, length-drop end w)) c.loop-i.invariant
    (omega (arith, long, c.loop-i-test.true))

pub returns : goal.returns
returns c =
    let w = c.args.w.now in
    let end = length w - 32 in
    let long = ap length c.checks-rest.ensures ∙ length-checks_of _ in
    sum_end w c.checks-rest.result end (omega (arith, long, length-drop end w)) c.loop-i.invariant
    (omega (arith, long, c.loop-i-test.false))
    ∙ ap (xors (drop end w)) c.checks-rest.ensures
