use mathlib.Core.Path.{◌≡◌, ap, sym, ◌∙◌}
use native.Mathlib.Omega.{arith}
use Rattle.std.specs.Prelude.{Some}
use Rattle.line.proofs.CodeLaws.{lawful, sizes-le}
use Rattle.line.proofs.JoiningLaws.{joining_start, joining_lt, joining_value, joining_step, joining_room, joining_bad, joining_end}
use Rattle.line.specs.Codes.{code_of}
use Rattle.line.specs.Decoding.{value_at}
use Rattle.line.proofs.decoding.words_at.Goals.{After-word_value}
use Rattle.line.proofs.decoding.words_at.Goals as goal

-- what word k stands for
valueAt-read : (c : After-word_value)
    → let a = c.args in
    value_at (code_of a.code) a.s.now a.at c.loop-k.k ≡ c.word_value.result
valueAt-read c =
    joining_value c.loop-k.invariant c.loop-k-test.true c.word-all.ensures
    c.part.ensures c.word_value.ensures

pub loop-k-init : goal.loop-k-init
loop-k-init c =
    joining_start
    (record {
      law = lawful c.args.code;
      b-eq = c.bits-b.ensures;
      w-eq = c.width-w.ensures;
      m-eq = c.per_byte-k-end.ensures;
    })
    c.unit-unit.ensures

pub returns-in_default : goal.returns-in_default
returns-in_default c =
    let loop = c.loop-k in
    sym (joining_bad loop.invariant c.loop-k-test.true
    (valueAt-read (goal.at.returns-in_default c).After-word_value ∙ c.in_default.is))

pub join-x-requires : goal.join-x-requires
join-x-requires c =
    let inv = c.loop-k.invariant in
    let is = valueAt-read (goal.at.join-x-requires c).After-word_value
    ∙ (c.in-Some.is ∙ ap Some (sym c.from.ensures)) in
    omega (arith, sizes-le inv.sizes, joining_room inv c.loop-k-test.true is)

pub loop-k-preserved : goal.loop-k-preserved
loop-k-preserved c =
    let inv = c.loop-k.invariant in
    let is = valueAt-read (goal.at.loop-k-preserved c).After-word_value
    ∙ (c.in-Some.is ∙ ap Some (sym c.from.ensures)) in
    rw c.join-x.ensures (joining_step inv c.loop-k-test.true is)

pub overflow_cast-result : goal.overflow_cast-result
overflow_cast-result c = omega (arith, joining_lt c.loop-k.invariant)

pub returns : goal.returns
returns c = sym (joining_end c.loop-k.invariant c.loop-k-test.false)
