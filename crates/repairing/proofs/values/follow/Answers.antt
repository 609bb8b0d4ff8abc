use Rattle.std.proofs.Common.{◌∙◌, ap₂, arith, bit_xor}
use Rattle.ground.proofs.InPlaceLaws.{in_place_start, in_place_next}
use Rattle.repairing.proofs.ValueLaws.{first_term, next_term}
use Rattle.repairing.proofs.values.follow.Goals as goal

pub loop-value-init : goal.loop-value-init
loop-value-init c =
    let a = c.args in
    (c.times_power-term.ensures ∙ first_term a.e a.place, in_place_start _ _)

pub loop-value-preserved : goal.loop-value-preserved
loop-value-preserved c =
    let k = c.loop-value.value-index in
    let i = c.loop-value.invariant in (
      next_term c.args.e c.args.place k (omega arith) i.0 c.times_power-term-in-loop-value.ensures,
      in_place_next _ _ i.1 (omega arith) (ap₂ bit_xor (i.1.left k (omega arith)) i.0),
    )

pub returns : goal.returns
returns c =
    let made = c.loop-value.invariant.1 in
    record { count = made.count ∙ c.told-s; values = λ k h. made.done k (omega arith) }
