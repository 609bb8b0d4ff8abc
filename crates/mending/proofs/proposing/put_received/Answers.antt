-- `mending::proposing::put_received` meets its contract. Assumes nothing.
use native.Mathlib.Omega.{arith}
use Rattle.blocks.proofs.CopyLaws.{copied_part}
use Rattle.mending.proofs.PutLaws.{received_put}
use Rattle.mending.proofs.proposing.put_received.Goals as goal

pub returns : goal.returns
returns c =
    let a = c.args in
    let frame = copied_part a.out.now a.s.now 0 a.size (omega arith) (omega arith) c.copy.ensures in
    received_put a.s.now a.out.now a.size (omega arith) frame c.copy_from_slice.ensures.after
