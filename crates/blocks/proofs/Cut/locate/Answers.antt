use native.Mathlib.Omega.{arith}
use Rattle.blocks.proofs.LoopLaws.{seeking_fits, seeking_step, seeking_end}
use Rattle.blocks.proofs.Cut.locate.Goals as goal

pub overflow_add-at : goal.overflow_add-at
overflow_add-at c = omega (arith, seeking_fits c.loop-most.invariant (omega arith) (omega arith))

pub overflow_add-at-in-loop-most : goal.overflow_add-at-in-loop-most
overflow_add-at-in-loop-most c = omega (arith, seeking_fits c.loop-most.invariant (omega arith) (omega arith))

pub loop-most-preserved : goal.loop-most-preserved
loop-most-preserved c = seeking_step c.loop-most.invariant (omega arith) (omega arith)

pub returns : goal.returns
returns c = rw c.min.ensures (seeking_end c.loop-most.invariant (omega arith) (omega arith))
