-- `repairing::scanning::error_at` meets its contract. Assumes nothing.
use Rattle.std.proofs.Common.{◌*◌, ◌%◌, ap, arith, sym, ◌∙◌}
use Rattle.field.specs.Field.{mul}
use Rattle.repairing.proofs.ValueLaws.{first_term, term_positive}
use Rattle.repairing.proofs.scanning.error_at.Goals as goal

pub ratio-requires : goal.ratio-requires
ratio-requires c =
    let a = c.args in
    term_positive a.y (1232 * a.place % 255) c.requires.1.0 (omega arith) c.times_power-whole.ensures

pub returns : goal.returns
returns c =
    let a = c.args in
    record {
      byte = omega arith;
      is = ap (mul c.ratio.result) (sym (c.times_power-whole.ensures ∙ first_term a.y a.place))
          ∙ c.ratio.ensures ∙ c.combine.ensures;
    }
