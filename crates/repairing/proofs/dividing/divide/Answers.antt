use Rattle.std.proofs.Common.{arith, get_or, refl}
use lib.Bits.{xor_lt}
use Rattle.field.proofs.FieldLaws.{mul-lt}
use Rattle.field.specs.Field.{alpha_to}
use Rattle.repairing.proofs.DivideLaws.{dividing_next, dividing_end}
use Rattle.repairing.proofs.dividing.divide.Goals as goal

pub loop-x-preserved : goal.loop-x-preserved
loop-x-preserved c =
    let l = c.loop-x in
    let step = mul-lt l.value (alpha_to c.args.k) l.invariant.byte in
    dividing_next _ _ l.invariant (omega arith) c.times_power.ensures refl
    (xor_lt 8 c.times_power.result (get_or l.v l.x-index 0) (omega (arith, c.times_power.ensures, step)) (omega arith))

pub returns : goal.returns
returns c =
    let state = c.loop-x.invariant in
    dividing_end _ _ state (omega (arith, state.made.count))
