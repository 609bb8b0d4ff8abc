use native.Mathlib.Numerals.{add-one}
use native.Mathlib.Omega.{arith}
use Prim.Native.Nat.{◌+◌, ◌*◌}
use lib.ListN.{replicate}
use Rattle.store.proofs.MeterAtLaws.{key_at_drop}
use Rattle.store.proofs.PlacedLaws.{placed_none, placed_held, placed_new}
use Rattle.store.proofs.restoring.places_in.Goals.{in-Some, in-None}
use Rattle.store.proofs.restoring.places_in.Goals as goal

pub loop-i-init : goal.loop-i-init
loop-i-init c =
    let own = c.args.held.now in
    let file = c.args.theirs.now in
    placed_none own.bytes.now own.count file.bytes.now file.first (replicate 64 0)

pub loop-i-preserved : goal.loop-i-preserved
loop-i-preserved c =
    let file = c.args.theirs.now in
    let so_far = c.loop-i.invariant in
    let key = key_at_drop file.bytes.now (file.first + 20 * c.loop-i.i) 1 in
    rw (add-one c.loop-i.i)
    (elim c.match-find.branch [
      | in-Some w ↦
          rw (w.places-is, w.total-is)
          (placed_held so_far (omega arith) (rw (c.at.ensures, key, c.requires) at w.in-Some.ensures.1)
          w.in-Some.ensures.0)
      | in-None w ↦
          rw (w.places-is, w.total-is)
          (placed_new so_far (omega arith) (rw (c.at.ensures, key, c.requires) at w.in-None.ensures) file.meters
          (omega arith) (omega arith))
    ])
