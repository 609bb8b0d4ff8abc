-- The definition's cases are by the length of the input, and so are the arms.
use Rattle.std.proofs.Common.{get_or, sym, ◌∙◌, arith}
use borrow.Author.Tests.{eq-eqb, ne_eqb}
use Rattle.channels.proofs.ListingLaws.{band_of_one, band_of_two, band_of_other}
use Rattle.channels.proofs.listing.band_of.Goals as goal

pub returns-in-len1 : goal.returns-in-len1
returns-in-len1 c = c.letter_of.ensures ∙ sym (band_of_one c.args.input.now (omega arith))

pub returns-in-10 : goal.returns-in-10
returns-in-10 c =
    let s = c.args.input.now in
    rw (band_of_two s (omega arith), eq-eqb (get_or s 1 0) 10 (omega arith)) c.letter_of-in-10.ensures

pub returns-in_default : goal.returns-in_default
returns-in_default c = sym (band_of_other c.args.input.now (λ e. omega arith) (λ e. omega arith))

pub returns-in_default-2 : goal.returns-in_default-2
returns-in_default-2 c =
    let s = c.args.input.now in
    rw (band_of_two s (omega arith), ne_eqb (get_or s 1 0) 10 (λ e. omega arith))

pub returns-in_default-3 : goal.returns-in_default-3
returns-in_default-3 c = sym (band_of_other c.args.input.now (λ e. omega arith) (λ e. omega arith))
