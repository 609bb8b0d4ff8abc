-- `crc::shares::share` meets its contract. The loop's invariant: the sum is the share of the bits of x above the
-- lowest k. Assumes nothing.
use mathlib.Core.Path.{◌≡◌}
use Prim.Native.Nat.{◌/◌, ◌^◌}
use Rattle.crc.specs.CheckUpdate.{share_of}
use Rattle.crc.proofs.shares.share.Given as goal

abbrev pub invariant-loop-k : goal.invariant-loop-k
invariant-loop-k l = l.sum ≡ share_of (l.x / 2 ^ l.k) l.distance
