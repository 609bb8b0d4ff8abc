-- `locating::reducing::step` meets its contract. Assumes nothing.
use Rattle.std.proofs.Common.{◌∙◌, arith, sym}
use Rattle.locating.proofs.ReduceLaws.{combined_part, cleared, next_column}
use Rattle.locating.proofs.reducing.step.Goals as goal

pub returns-then-sum-eq0-clause-stepped : goal.returns-then-sum-eq0-clause-stepped
returns-then-sum-eq0-clause-stepped c =
    let at = c.requires.reducing.1 in
    next_column at (sym (combined_part _ _ at.poly) ∙ sym c.combine-sum.ensures ∙ c.if-sum-eq0.true)

pub clear-requires : goal.clear-requires
clear-requires c = (c.requires.slots.slot c.args.column c.requires.reducing.0 c.in-Some.polynomial c.in-Some.is).0

pub returns-in-None-clause-stepped : goal.returns-in-None-clause-stepped
returns-in-None-clause-stepped c =
    let at = c.requires.reducing.1 in (
      at,
      record {
        within = c.requires.reducing.0;
        here = sym (combined_part _ _ at.poly) ∙ sym c.combine-sum.ensures;
        some = omega arith;
        free = c.in-None.is;
      },
    )

pub returns-in-Some-clause-stepped : goal.returns-in-Some-clause-stepped
returns-in-Some-clause-stepped c =
    let at = c.requires.reducing.1 in
    let kept = c.requires.slots.slot c.args.column c.requires.reducing.0 c.in-Some.polynomial c.in-Some.is in
    cleared at kept.1 c.clear.ensures
    (sym (combined_part _ _ at.poly) ∙ sym c.combine-sum.ensures)
