-- `crc::words::lead` meets its contract: up to seven bytes are one number, eight more are two words behind it.
-- Assumes nothing.
use mathlib.Core.Path.{◌≡◌, refl}
use Prim.Native.Nat.{◌+◌, ◌/◌, ◌%◌, ◌^◌}
use native.Mathlib.Omega.{arith}
use lib.ListN.{length}
use Rattle.crc.specs.Inner.{remainder}
use Rattle.crc.proofs.WordLaws.{remainder_parts, adds_four, adds_only, adds_taken}
use Rattle.crc.proofs.words.lead.Goals as goal

pub returns-then-s-lt8-clause-adds : goal.returns-then-s-lt8-clause-adds
returns-then-s-lt8-clause-adds c =
    let s = c.args.s.now in
    let k = length s in
    let w = c.number-w.result in
    let few = adds_taken s (k % 8) _ (omega arith) c.number-w.ensures.0 in
    let all : k % 8 ≡ k = omega arith in
    adds_only s 0 k (remainder (w / 2 ^ 32)) (remainder (w % 2 ^ 32)) (remainder c.four.result)
    (rw (← remainder_parts 32 w (omega arith) (omega arith)) (rw all at few)) c.four.ensures.result_value

pub returns-clause-adds : goal.returns-clause-adds
returns-clause-adds c =
    let s = c.args.s.now in
    let k = length s in
    let w = c.number-w.result in
    let few = adds_taken s (k % 8) _ (omega arith) c.number-w.ensures.0 in
    let all : k % 8 + 8 ≡ k = omega arith in
    rw (← all)
    (adds_four s 0 (k % 8) (k % 8) (k % 8 + 4) (remainder (w / 2 ^ 32)) (remainder (w % 2 ^ 32))
    (remainder c.word-r.result) (remainder c.word-t.result) (remainder c.four-2.result) (omega arith) refl
    (rw (← remainder_parts 32 w (omega arith) (omega arith)) few) c.word-r.ensures.0 c.word-t.ensures.0
    c.four-2.ensures.result_value)
