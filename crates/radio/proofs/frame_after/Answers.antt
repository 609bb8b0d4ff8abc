-- The frame that a length byte says always fits the room that it is decoded into, so that no refusal for want of room
-- is passed on.
use mathlib.Core.Path.{sym}
use native.Mathlib.Omega.{arith}
use Rattle.std.proofs.lemmas.Grind.{common_steps}
use Rattle.line.specs.Decoding.{decoded}
use Rattle.radio.specs.KindParts.{format_of}
use Rattle.radio.specs.Receiving.{frame_after, after_words, by_size}
use Rattle.radio.proofs.SizeLaws.{size_for_le}
use Rattle.radio.proofs.frame_after.Goals as goal

pub returns-in_err-decode-2 : goal.returns-in_err-decode-2
unfolding frame_after after_words by_size decoded
returns-in_err-decode-2 c =
    let fits = size_for_le (format_of c.args.kind) _ (sym (rw c.format_of.ensures at c.in_ok-size.ensures)) in
    grind (arith, common_steps)
