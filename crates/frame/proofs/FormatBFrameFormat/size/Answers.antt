-- `FormatB::size` meets its contract: one check up to 125 bytes of content, two beyond. Assumes nothing.
use mathlib.Core.Path.{sym}
use native.Mathlib.Omega.{arith}
use Rattle.frame.proofs.FormatLaws.{frame_size_B, frame_size_B_long}
use Rattle.frame.proofs.FormatBFrameFormat.size.Goals as goal

pub returns-then-n-lt-FIRST : goal.returns-then-n-lt-FIRST
returns-then-n-lt-FIRST c = sym (frame_size_B c.args.n (omega arith))

pub returns-else-n-lt-FIRST : goal.returns-else-n-lt-FIRST
returns-else-n-lt-FIRST c = sym (frame_size_B_long c.args.n (omega arith) (omega arith))
