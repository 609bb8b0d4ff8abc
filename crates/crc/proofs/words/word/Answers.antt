-- `crc::words::word` meets its contract: the first of the four bytes is the highest. Assumes nothing.
use native.Mathlib.Omega.{arith}
use Rattle.crc.proofs.WordLaws.{adds_word}
use Rattle.crc.proofs.words.word.Goals as goal

pub returns : goal.returns
returns c =
    let a = c.args in
    (adds_word a.s.now a.at c.from.result (omega arith) (λ i. omega (arith, c.type_inv.s i)) (omega arith), omega arith)
