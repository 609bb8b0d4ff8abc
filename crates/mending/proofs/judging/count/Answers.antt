-- `mending::judging::count` meets its contract. Assumes nothing.
use Rattle.mending.proofs.WordLaws.{words_differ}
use Rattle.mending.proofs.judging.count.Goals as goal

pub returns : goal.returns
returns c =
    words_differ c.args.p.now c.args.s.now c.args.size c.requires.0 c.requires.1.0
    c.requires.1.1 c.differing.ensures.0 c.differing-2.ensures.0
