-- `crc::words::group` meets its contract: four words of four bytes each, one behind the other. Assumes nothing.
use mathlib.Core.Path.{refl}
use Rattle.crc.specs.Inner.{remainder}
use Rattle.crc.proofs.WordLaws.{adds_two, adds_four}
use Rattle.crc.proofs.words.group.Goals as goal

pub returns-clause-adds : goal.returns-clause-adds
returns-clause-adds c =
    let s = c.args.s.now in
    adds_four s 0 8 8 12 (remainder c.word-p.result) (remainder c.word-q.result) (remainder c.word-r.result)
    (remainder c.word-t.result) (remainder c.four.result) refl refl
    (adds_two s 0 (remainder c.word-p.result) (remainder c.word-q.result) c.word-p.ensures.0 c.word-q.ensures.0)
    c.word-r.ensures.0 c.word-t.ensures.0 c.four.ensures.result_value
