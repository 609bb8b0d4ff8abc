-- A frame always fits the room that it is written into, so that no refusal but the content's is passed on.
use native.Mathlib.Omega.{arith}
use lib.ListN.{length}
use Rattle.frame.specs.Writes.{writing_of}
use Rattle.radio.specs.KindParts.{format_of}
use Rattle.radio.specs.Sending.{sending_of}
use Rattle.radio.proofs.SizeLaws.{frame_size-le}
use Rattle.radio.proofs.send.Goals as goal

pub returns-in_err-size : goal.returns-in_err-size
unfolding sending_of writing_of
returns-in_err-size c = grind (arith, frame_size-le (format_of c.args.kind) (length c.args.content.now))
