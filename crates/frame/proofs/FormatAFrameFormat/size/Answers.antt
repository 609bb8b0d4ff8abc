-- `FormatA::size` meets its contract: the closed form is the sum over the spans. Assumes nothing.
use mathlib.Core.Path.{sym}
use Rattle.frame.proofs.FormatLaws.{frame_size_A}
use Rattle.frame.proofs.FormatAFrameFormat.size.Goals as goal

pub returns : goal.returns
returns c = sym (frame_size_A c.args.n)
