use Rattle.std.proofs.Common.{arith}
use Rattle.locating.proofs.SearchLaws.{search_start, more_left, search_on}
use Rattle.locating.proofs.searching.locate.Goals as goal

pub loop-column-init : goal.loop-column-init
loop-column-init c = search_start c.args.s.now

pub raise-requires : goal.raise-requires
raise-requires c =
    let state = c.loop-column.invariant in
    let r = c.in-Some.ensures.reduced in
    omega (arith, more_left state.slots state.count r.0 r.1, c.in-Some.ensures.degree)

pub loop-column-preserved : goal.loop-column-preserved
loop-column-preserved c =
    let state = c.loop-column.invariant in
    let r = c.in-Some.ensures.reduced in
    search_on state.slots state.count r.0 r.1 c.raise.ensures.coefficients
    (omega (arith, c.saturating_sub-from.ensures)) (omega (arith, c.raise.ensures.degree, c.in-Some.ensures.degree))
