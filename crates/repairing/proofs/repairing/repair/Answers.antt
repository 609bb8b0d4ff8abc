-- `repairing::repairing::repair` meets its contract. Assumes nothing.
use Rattle.std.proofs.Common.{arith, rules}
use Rattle.ground.specs.Bytes.{Bytes}
use Rattle.repairing.proofs.RepairLaws.{length_part, scan_start, word_start, zeros_told, repaired}
use Rattle.repairing.proofs.repairing.repair.Goals as goal

pub scan-requires : goal.scan-requires
scan-requires c =
    let bytes : Bytes c.args.w.now = λ j. search rules in
    let found = c.locate-locator.ensures in
    let word = word_start c.requires.0 c.requires.1.0 bytes c.requires.1.1 c.values-s.ensures in
    (omega (arith, length_part found), scan_start found word)

pub returns : goal.returns
returns c =
    let bytes : Bytes c.args.w.now = λ j. search rules in
    let end = c.scan.ensures in
    (end.word.count, repaired bytes end c.eq.result (zeros_told _ end.word.held.count c.eq.ensures))
