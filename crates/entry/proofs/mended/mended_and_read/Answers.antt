-- `entry::mended::mended_and_read`: the byte is one that was written, the proposal is made and taken, and reading it is
-- reading the frame.
use mathlib.Core.Path.{◌∙◌, sym}
use native.Mathlib.Omega.{arith}
use Rattle.std.proofs.Common.{rules}
use Rattle.entry.proofs.CellarLaws.{place_inside, cellar_made, cellar_taken, cellar_read}
use Rattle.entry.proofs.mended.mended_and_read.Goals as goal

pub bounds-sent-place : goal.bounds-sent-place
bounds-sent-place c =
    let a = c.args in
    place_inside a.f a.s.now a.sent.now c.requires.0 a.size a.place a.byte (λ j. search rules) c.requires.1
    c.if-size-place.false

pub returns-in_err-propose_one : goal.returns-in_err-propose_one
returns-in_err-propose_one c =
    let a = c.args in
    absurd (cellar_made a.f a.s.now a.sent.now c.requires.0 a.size a.place a.byte (λ j. search rules) c.requires.1
    c.if-place-lt1.false c.if-size-place.false (omega arith) a.proposal.now c.if-proposal-size.false
    c.propose_one.ensures _ (c.in_err-propose_one.was))

pub returns-in_err-judge : goal.returns-in_err-judge
returns-in_err-judge c =
    let a = c.args in
    absurd (cellar_taken a.f a.s.now a.sent.now c.requires.0 a.size a.place a.byte (λ j. search rules) c.requires.1
    c.if-place-lt1.false c.if-size-place.false (omega arith) a.proposal.now c.if-proposal-size.false
    c.propose_one.ensures _ (sym c.judge.ensures ∙ c.in_err-judge.was))

pub returns : goal.returns
returns c =
    let a = c.args in
    c.read-2.ensures
    ∙ cellar_read a.f a.s.now a.sent.now c.requires.0 a.size a.place a.byte (λ j. search rules) c.requires.1
    c.if-place-lt1.false c.if-size-place.false (omega arith) a.proposal.now c.if-proposal-size.false
    c.propose_one.ensures a.d.now
