-- Line `channel` of the indices that are left is line k of the band.
use Rattle.std.proofs.Common.{◌≡◌, ◌-◌, slice_get}
use Rattle.channels.specs.Listing.{lines_from, line_at}
use Rattle.channels.proofs.listing.line_at.Given as goal

abbrev pub invariant-loop-index : goal.invariant-loop-index
invariant-loop-index l =
    slice_get (lines_from l.index (l.index-end - l.index)) l.channel ≡ line_at l.fn.band l.fn.k
