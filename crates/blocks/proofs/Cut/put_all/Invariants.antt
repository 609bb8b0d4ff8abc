-- `Cut::put_all` meets its contract. The loop's invariant: the slice, once the spans that are left are written to
-- it, is the same after each turn as it was behind the first span. Assumes nothing.
use mathlib.Core.Path.{◌≡◌}
use lib.ListN.{drop}
use Rattle.blocks.proofs.LoopLaws.{Putting}
use Rattle.blocks.proofs.Cut.put_all.Given as goal

abbrev pub invariant-loop-piece : goal.invariant-loop-piece
invariant-loop-piece l =
    let pieces = l.piece-iterator in record {
      size : pieces.size ≡ l.fn.self.later;
      left : Putting (drop l.first l.c) l.fn.self.later l.initial.out l.initial.at l.out pieces.rest.now l.at;
    }
