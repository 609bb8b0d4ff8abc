-- `line::decoding::halves_at` meets its contract: by what the table says of the first word, then of the second.
use mathlib.Core.Path.{ap, sym, ◌∙◌}
use native.Mathlib.Omega.{arith}
use Rattle.line.proofs.HalvesLaws.{listed_for, listed_some, listed_none, shifted_first, shifted_second, byte_read_first, byte_read_second, byte_read_both}
use Rattle.line.proofs.decoding.halves_at.Goals as goal

pub returns-in_default : goal.returns-in_default
returns-in_default c =
    let a = c.args in
    let first = ap listed_for (shifted_first a.s.now a.at c.half.ensures) in
    sym (byte_read_first a.s.now a.at c.half.ensures first (listed_none _ (sym c.half_of.ensures ∙ c.in_default.is)))

pub returns-in_default-half_of : goal.returns-in_default-half_of
returns-in_default-half_of c =
    let a = c.args in
    let first = ap listed_for (shifted_first a.s.now a.at c.half.ensures) in
    let second = ap listed_for (shifted_second a.s.now a.at c.half.ensures) in
    let high = listed_some _ (sym c.half_of.ensures ∙ c.in-Some.is) in
    let none = listed_none _ (sym c.half_of-2.ensures ∙ c.in_default-half_of.is) in
    sym (byte_read_second a.s.now a.at c.half.ensures (high.0 ∙ first) high.1 second none)

pub overflow_mul-result : goal.overflow_mul-result
overflow_mul-result c = omega (arith, listed_some _ (sym c.half_of.ensures ∙ c.in-Some.is))

pub overflow_add-result : goal.overflow_add-result
overflow_add-result c =
    let high = listed_some _ (sym c.half_of.ensures ∙ c.in-Some.is) in
    let low = listed_some _ (sym c.half_of-2.ensures ∙ c.in-Some-half_of.is) in
    omega arith

pub returns : goal.returns
returns c =
    let a = c.args in
    let first = ap listed_for (shifted_first a.s.now a.at c.half.ensures) in
    let second = ap listed_for (shifted_second a.s.now a.at c.half.ensures) in
    let high = listed_some _ (sym c.half_of.ensures ∙ c.in-Some.is) in
    let low = listed_some _ (sym c.half_of-2.ensures ∙ c.in-Some-half_of.is) in
    sym (byte_read_both a.s.now a.at c.half.ensures (high.0 ∙ first) high.1 (low.0 ∙ second) low.1)
