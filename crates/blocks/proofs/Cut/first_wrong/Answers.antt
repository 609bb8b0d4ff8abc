use mathlib.Core.Path.{sym, ◌∙◌}
use Prim.Native.Nat.{◌+◌, ◌≤◌}
use native.Mathlib.Omega.{arith}
use borrow.Author.Tests.{not-true, not-false}
use lib.ListN.{length}
use Rattle.blocks.proofs.LoopLaws.{checking_fits, checking_wrong, checking_step, checking_end}
use Rattle.blocks.proofs.Cut.first_wrong.Goals.{After-min-k}
use Rattle.blocks.proofs.Cut.first_wrong.Goals as goal

-- the span at hand and its check lie inside the slice
room :
    (c : After-min-k)
    → c.loop-left.at + (c.min-k.result + 2) ≤ length c.args.s.now
room c =
    omega (arith, checking_fits c.loop-left.invariant (omega arith) (omega arith) c.min-k.ensures)

pub block_ok-requires : goal.block_ok-requires
block_ok-requires c = omega (arith, room (goal.at.block_ok-requires c).After-min-k)

pub returns-then-not-block_ok : goal.returns-then-not-block_ok
returns-then-not-block_ok c =
    checking_wrong c.loop-left.invariant (omega arith) (omega arith) c.min-k.ensures
    (sym c.block_ok.ensures ∙ not-true _ c.if-not-block_ok.true-raw)

pub overflow_add-at : goal.overflow_add-at
overflow_add-at c = omega (arith, room (goal.at.overflow_add-at c).After-min-k)

pub overflow_add-at-in-loop-left : goal.overflow_add-at-in-loop-left
overflow_add-at-in-loop-left c = omega (arith, room (goal.at.overflow_add-at-in-loop-left c).After-min-k)

pub loop-left-preserved : goal.loop-left-preserved
loop-left-preserved c =
    checking_step c.loop-left.invariant (omega arith) (omega arith) c.min-k.ensures
    (sym c.block_ok.ensures ∙ not-false _ c.if-not-block_ok.false-raw)

pub returns : goal.returns
returns c = checking_end c.loop-left.invariant (omega arith)
