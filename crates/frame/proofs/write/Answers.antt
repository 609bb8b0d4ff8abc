-- `frame::write` meets its contract: the content's length is judged first, then the room, then all is written.
-- Assumes nothing.
use mathlib.Core.Path.{sym}
use Prim.Native.Nat.{◌≤◌}
use native.Mathlib.Omega.{arith}
use lib.ListN.{length}
use Rattle.frame.specs.Formats.{form_of, frame_size}
use Rattle.frame.specs.Frames.{frame_of}
use Rattle.frame.proofs.FormatLaws.{one-lt_first}
use Rattle.frame.proofs.WriteLaws.{writing_of_short, writing_of_long, writing_of_no_room, writing_of-accepted}
use Rattle.frame.proofs.write.Goals.{Else-longest-n, Else-n-shortest, Else-out-size}
use Rattle.frame.proofs.write.Goals as goal

-- the content is as long as the format wants it, and its frame fits
low :
    (c : Else-n-shortest)
    → let a = c.args in
    (form_of a.f).shortest ≤ length a.content.now
low c = omega (arith, c.if-n-shortest.false, c.shortest.ensures)

high :
    (c : Else-longest-n)
    → let a = c.args in
    length a.content.now ≤ (form_of a.f).longest
high c = omega (arith, c.if-longest-n.false, c.longest.ensures)

room :
    (c : Else-out-size)
    → let a = c.args in
    frame_size a.f (length a.content.now) ≤ length a.out.now
room c = omega (arith, c.if-out-size.false, c.size-size.ensures)

pub returns-then-n-shortest : goal.returns-then-n-shortest
returns-then-n-shortest c =
    let a = c.args in
    sym (writing_of_short a.f a.content.now a.out.now
    (omega (arith, c.if-n-shortest.true, c.shortest.ensures)))

pub returns-then-longest-n : goal.returns-then-longest-n
returns-then-longest-n c =
    let a = c.args in
    sym (writing_of_long a.f a.content.now a.out.now (low (goal.at.returns-then-longest-n c).Else-n-shortest)
    (omega (arith, c.if-longest-n.true, c.longest.ensures)))

pub returns-then-out-size : goal.returns-then-out-size
returns-then-out-size c =
    let a = c.args in
    sym (writing_of_no_room a.f a.content.now a.out.now (low (goal.at.returns-then-out-size c).Else-n-shortest)
    (high (goal.at.returns-then-out-size c).Else-longest-n)
    (omega (arith, c.if-out-size.true, c.size-size.ensures)))

pub put_all-requires : goal.put_all-requires
unfolding frame_size
put_all-requires c =
    let a = c.args in
    rw (c.cut.ensures.0, c.cut.ensures.1) (one-lt_first a.f, room (goal.at.put_all-requires c).Else-out-size)

pub returns : goal.returns
unfolding frame_of frame_size
returns c =
    let a = c.args in
    rw (
      c.put_all.ensures,
      c.cut.ensures.0,
      c.cut.ensures.1,
      c.length_byte.ensures,
      c.size-size.ensures,
    )
    (sym (writing_of-accepted a.f a.content.now a.out.now (low (goal.at.returns c).Else-n-shortest)
    (high (goal.at.returns c).Else-longest-n)
    (room (goal.at.returns c).Else-out-size)))
