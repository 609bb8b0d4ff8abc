-- `correction::writing::write` meets its contract: the frame was judged, so all of it is there. Assumes nothing.
use mathlib.Core.Path.{sym}
use native.Mathlib.Omega.{arith}
use Rattle.frame.proofs.AcceptLaws.{judge_of-accepted}
use Rattle.correction.proofs.writing.write.Goals as goal

pub put_corrected-requires : goal.put_corrected-requires
put_corrected-requires c = ((judge_of-accepted c.args.f c.args.s.now (sym c.in_ok-size.ensures)).fits, omega arith)
