-- `blocks::copy` meets its contract. Assumes nothing.
use mathlib.Core.Path.{◌≡◌, sym, ◌∙◌}
use Prim.Native.Nat.{◌+◌, ◌-◌, ◌≤◌}
use native.Mathlib.Omega.{arith}
use borrow.Rule.Slice.PartMut.{put_mid}
use lib.ListN.{length, drop, length-set}
use lib.Seq.{paste, length-paste}
use Rattle.blocks.proofs.CopyLaws.{begun, copied, begun_next, begun_more, begun_all}
use Rattle.blocks.proofs.copy.Goals as goal

pub loop-i-preserved : goal.loop-i-preserved
loop-i-preserved c =
    let w = c.loop-i in
    let s = c.args.«from».now in
    let put : w.i + 16 - w.i ≡ 16 = omega arith in
    let piece = rw put at c.copy_from_slice.ensures.after in
    let d = c.args.to.now in
    let pasted : put_mid w.i (w.i + 16 - w.i) w.to c.copy_from_slice.new.self ≡ paste w.to w.i (drop w.i s) 16
    = rw put (copied w.to (drop w.i s) w.i 16 piece) in
    let more : paste w.to w.i (drop w.i s) 16 ≡ begun d s (w.i + 16)
    = rw w.invariant.1.1 (begun_more d s w.i 16 (omega arith) (omega arith)) in
    let long : length (begun d s (w.i + 16)) ≡ length d
    = length-paste d 0 s (w.i + 16) (omega arith) (omega arith) in
    (omega arith, (rw (pasted ∙ more) long, pasted ∙ more))

pub loop-k-preserved : goal.loop-k-preserved
loop-k-preserved c =
    let w = c.loop-k in
    let s = c.args.«from».now in (
      length-set w.to w.k _ ∙ w.invariant.0,
      rw w.invariant.1 (begun_next c.loop-i.to s w.k c.loop-k-test.true (omega (arith, c.loop-i.invariant.1.0))),
    )

pub returns : goal.returns
returns c =
    let w = c.loop-i in
    let s = c.args.«from».now in
    let all : c.loop-k.k ≡ length s = omega arith in
    begun_all c.args.to.now s w.i w.invariant.0 c.requires (rw (← w.invariant.1.1, ← all) c.loop-k.invariant.1)
