-- `line::decoding::decode` meets its contract: each answer follows from the tests that led to it.
use mathlib.Core.Path.{◌≡◌, refl, sym, ◌∙◌}
use mathlib.Core.List.{List}
use Prim.Native.Nat.{ℕ, ◌+◌, ◌*◌, ◌≤◌}
use native.Mathlib.Nat.{mul_assoc}
use native.Mathlib.Omega.{arith}
use lib.ListN.{length}
use lib.Seq.{take_at}
use Rattle.std.proofs.Common.{rules}
use Rattle.std.proofs.lemmas.List.{length-take-le}
use Rattle.answers.specs.declared.Refusal.{Refusal}
use Rattle.chips.proofs.RangeLaws.{InBuffer, in_range_true}
use Rattle.chips.specs.Chips.{chip_count, room_limit}
use Rattle.line.proofs.AnswerLaws.{decoded_out, decoded_short, decoded_bad, decoded_no_room, decoded-accepted}
use Rattle.line.proofs.CodeLaws.{lawful, chips_in_ge}
use Rattle.line.proofs.TripLaws.{length-decoding}
use Rattle.line.specs.Codes.{code_of, chips_in}
use Rattle.line.specs.Decoding.{decoding}
use Rattle.line.specs.Inner.{AllWords, NotWords}
use Rattle.line.specs.declared.codes.Code.{Code}
use Rattle.line.proofs.decoding.decode.Goals.{Else-not-in_range, Else-s-start, In_ok-fill}
use Rattle.line.proofs.decoding.decode.Goals as goal

-- buffer and start are in range
in_buffer : (c : Else-not-in_range) → InBuffer c.args.s.now c.args.start
in_buffer c = in_range_true (sym c.in_range.ensures ∙ c.if-not-in_range.false)

-- the named bytes lie in the buffer
fits : (c : Else-s-start)
    → let a = c.args in
    (length a.s.now ≤ room_limit) × (a.start + chips_in (code_of a.code) a.n ≤ chip_count a.s.now)
fits c =
    let a = c.args in
    let inside = in_range_true {s = a.s.now} {at = a.start} (sym c.in_range.ensures ∙ c.if-not-in_range.false) in
    let needed : a.n * c.unit.result ≡ chips_in (code_of a.code) a.n = rw (c.unit.ensures, mul_assoc) in
    (inside.small, omega (arith, inside.inside, c.if-s-start.false))

-- the part of the room that is filled has n bytes
module _ (code : Code) (s : List ℕ) (start : ℕ) {m n : ℕ} where
  filled : {d : List ℕ} → AllWords (code_of code) s start m × (d ≡ decoding (code_of code) s start m) → m ≡ n
      → AllWords (code_of code) s start n × (d ≡ decoding (code_of code) s start n)
  filled all size = rw (← size) all

  refused : {r : Refusal} → NotWords (code_of code) s start m r → m ≡ n → NotWords (code_of code) s start n r
  refused none size = rw (← size) none

pub returns-then-not-in_range : goal.returns-then-not-in_range
returns-then-not-in_range c =
    sym (decoded_out _ _ _ _ _ (sym c.in_range.ensures ∙ c.if-not-in_range.true))

pub returns-then-n-gt-LIMIT : goal.returns-then-n-gt-LIMIT
returns-then-n-gt-LIMIT c =
    let inside = in_buffer (goal.at.returns-then-n-gt-LIMIT c).Else-not-in_range in
    let law = lawful c.args.code in
    sym (decoded_short _ _ _ _ _ inside (omega (arith, inside.small, chips_in_ge law c.args.n)))

pub returns-then-s-start : goal.returns-then-s-start
returns-then-s-start c =
    let a = c.args in
    let inside = in_buffer (goal.at.returns-then-s-start c).Else-not-in_range in
    let needed : a.n * c.unit.result ≡ chips_in (code_of a.code) a.n = rw (c.unit.ensures, mul_assoc) in
    sym (decoded_short _ _ _ _ _ inside (omega (arith, inside.inside)))

pub returns-in_err-fill : goal.returns-in_err-fill
returns-in_err-fill c =
    let a = c.args in
    let there = fits (goal.at.returns-in_err-fill c).Else-s-start in
    let none = refused a.code a.s.now a.start c.in_err-fill.ensures.err (length-take-le a.n _ (omega arith)) in
    let bad = decoded_bad (code_of a.code) a.s.now a.start a.n a.out.now there.0 there.1 refl none.0 in
    search rules

pub returns-then-out-n : goal.returns-then-out-n
returns-then-out-n c =
    let there = fits (goal.at.returns-then-out-n c).Else-s-start in
    let a = c.args in
    let all = filled a.code a.s.now a.start c.in_ok-fill.ensures.ok (length-take-le a.n _ (omega arith)) in
    sym (decoded_no_room _ _ _ _ _ there.0 there.1 all.0 c.if-out-n.true)

pub returns : goal.returns
returns c =
    let a = c.args in
    let there = fits (goal.at.returns c).Else-s-start in
    let all = filled a.code a.s.now a.start c.in_ok-fill.ensures.ok (length-take-le a.n _ (omega arith)) in
    let is = decoded-accepted (code_of a.code) a.s.now a.start a.n a.out.now there.0 there.1 all.0 c.if-out-n.false in
    let size : length c.fill.new.room ≡ a.n = rw all.1 (length-decoding (code_of a.code) a.s.now a.start a.n) in
    let copied : c.copy_from_slice.new.self ≡ c.fill.new.room
    = c.copy_from_slice.ensures.after ∙ take_at c.fill.new.room _ a.n size in
    rw (is, ← all.1, copied)
