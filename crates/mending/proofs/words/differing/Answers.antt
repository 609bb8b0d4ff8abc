-- `mending::words::differing` meets its contract: so many bytes differ before place i. Assumes nothing.
use mathlib.Core.Path.{◌∙◌}
use native.Mathlib.Omega.{arith}
use Rattle.mending.proofs.WordLaws.{counting_start, counting_few, counting_next, counting_end}
use Rattle.mending.proofs.words.differing.Goals as goal

pub loop-i-init : goal.loop-i-init
loop-i-init c = counting_start _ _

pub overflow_add-count : goal.overflow_add-count
overflow_add-count c = omega (arith, counting_few _ _ c.loop-i.invariant c.from-count.ensures)

pub loop-i-preserved : goal.loop-i-preserved
loop-i-preserved c =
    counting_next _ _ c.requires.0 c.loop-i.invariant c.loop-i-test.true c.from-count.ensures

pub returns : goal.returns
returns c =
    let held = c.loop-i.invariant in
    (c.from.ensures ∙ counting_end _ _ held c.loop-i-test.false, omega (arith, c.from.ensures, held.few, held.within))
