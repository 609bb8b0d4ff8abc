-- `chips::bytes` meets its contract. The loop's invariant: before place k stand the chips that are asked for.
use lib.ListN.{length}
use Rattle.chips.specs.Packing.{bytes_at}
use Rattle.ground.proofs.InPlaceLaws.{InPlace, elements}
use Rattle.chips.proofs.bytes.Given as goal

abbrev pub invariant-loop-k : goal.invariant-loop-k
invariant-loop-k l = InPlace (elements (bytes_at l.s l.at (length l.initial.room))) l.initial.room l.room l.k
