use Rattle.std.proofs.Common.{◌≡◌, ◌+◌, ◌-◌, sym, ◌∙◌, arith, rules}
use Rattle.channels.proofs.ListingLaws.{slice_get_lines_from-lt, slice_get_lines_from-le, slice_get_lines_from-nil}
use Rattle.channels.proofs.listing.line_at.Goals as goal

pub returns-then-channel-channels : goal.returns-then-channel-channels
returns-then-channel-channels c =
    let at = c.loop-index in
    rw c.hertz_in-hertz.ensures
    (sym (slice_get_lines_from-lt at.index _ at.channel (omega arith) (search rules)) ∙ at.invariant)

pub loop-index-preserved : goal.loop-index-preserved
loop-index-preserved c =
    let at = c.loop-index in
    let rows = c.rows_of-rows.result in
    let left : rows.first + rows.count - (at.index + 1) ≡ rows.first + rows.count - at.index - 1 = omega arith in
    rw (left, c.channels_of-channels.ensures)
    (sym (slice_get_lines_from-le at.index _ at.channel (omega arith) (search rules)) ∙ at.invariant)

pub returns : goal.returns
returns c =
    let at = c.loop-index in
    sym (slice_get_lines_from-nil at.index _ at.channel (omega arith)) ∙ at.invariant
