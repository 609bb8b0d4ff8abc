-- `meters::put_unsure` meets its contract: a run and the mark behind it. Assumes nothing.
use mathlib.Core.List.{[], ◌∷◌}
use mathlib.Core.Path.{◌≡◌}
use Prim.Native.Nat.{◌+◌, ◌-◌}
use lib.ListN.{length}
use native.Mathlib.Omega.{arith}
use Rattle.ground.proofs.StoresLaws.{sets_then}
use Rattle.address.proofs.StoreLaws.{part_stored}
use Rattle.store.proofs.meters.put_unsure.Goals as goal

pub returns : goal.returns
returns c =
    let out = c.args.out.now in
    let v = c.args.unmarked.now in
    let n = c.args.at + 19 - c.args.at in
    let size : n ≡ length v = omega (arith, c.requires.0) in
    let copied = part_stored v out c.args.at n size (omega arith) c.copy_from_slice.ensures.after in
    sets_then v (1 ∷ []) out c.args.at copied (rw c.requires.0)
