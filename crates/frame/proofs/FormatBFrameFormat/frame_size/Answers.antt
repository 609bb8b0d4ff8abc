-- `FormatB::frame_size` meets its contract: what the two ranges of L say of the size. Assumes nothing.
use mathlib.Core.Path.{◌≡◌}
use Prim.Native.Nat.{◌+◌, ◌-◌}
use native.Mathlib.Omega.{arith}
use borrow.Author.Tests.{le-leb, lt-leb}
use Rattle.frame.specs.declared.Format.TheVariants.{B}
use Rattle.frame.specs.Formats.{frame_size}
use Rattle.frame.proofs.FormatLaws.{frame_size_B, frame_size_B_long}
use Rattle.frame.proofs.FormatBFrameFormat.frame_size.Goals as goal

pub returns-then-l-2 : goal.returns-then-l-2
returns-then-l-2 c =
    let l = c.args.l in
    let size : frame_size B (l - 2) ≡ l + 1 = omega (arith, frame_size_B (l - 2) (omega arith)) in
    rw (c.from-l.ensures, le-leb 12 l (omega arith), le-leb l 127 (omega arith), size)

pub returns : goal.returns
returns c =
    let l = c.args.l in
    let size : frame_size B (l - 4) ≡ l + 1 = omega (arith, frame_size_B_long (l - 4) (omega arith) (omega arith)) in
    rw (
      c.from-l.ensures,
      le-leb 12 l (omega arith),
      lt-leb l 127 (omega arith),
      le-leb 130 l (omega arith),
      le-leb l 255 (omega arith),
      size,
    )
