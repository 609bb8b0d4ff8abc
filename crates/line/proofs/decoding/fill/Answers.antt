use mathlib.Core.Path.{◌≡◌, refl, ap, sym, ◌∙◌}
use Prim.Native.Nat.{ℕ, ◌+◌, ◌*◌, ◌<◌}
use native.Mathlib.Omega.{arith}
use lib.ListN.{length}
use Rattle.line.proofs.CodeLaws.{lawful, words_in_le}
use Rattle.line.proofs.NrzLaws.{nrz_words, nrz_bytes}
use Rattle.line.proofs.FillingLaws.{filling_start, filling_step, filling_bad, filling_end, filling_length}
use Rattle.answers.specs.declared.Refusal.TheVariants.{BadWord}
use Rattle.line.specs.Codes.{code_of, words_in}
use Rattle.line.specs.Decoding.{value_at, good_run}
use Rattle.line.proofs.decoding.fill.Goals.{At-loop-i, In-Err, In-loop-i}
use Rattle.line.proofs.decoding.fill.Goals as goal

-- the room is as long as it was
kept : (c : At-loop-i) → length c.loop-i.room ≡ length c.args.room.now
kept c = filling_length c.loop-i.invariant (omega arith)

-- the first word that is none
bad : (c : In-Err)
    → let a = c.args in
    let κ = code_of a.code in
    let place = c.loop-i.i * c.per_byte-m.result + c.in-Err.k in
    let m = words_in κ (length a.room.now) in
    (place ≡ good_run (value_at κ a.s.now a.start) m) × (place < m)
bad c = filling_bad c.loop-i.invariant c.loop-i-test.true (sym c.byte_at.ensures ∙ c.in-Err.is)

pub loop-i-init : goal.loop-i-init
loop-i-init c = filling_start (lawful c.args.code) c.per_byte-m.ensures c.unit-unit.ensures

pub overflow_add-result : goal.overflow_add-result
overflow_add-result c =
    let a = c.args in
    omega (arith, bad (goal.at.overflow_add-result c).In-Err, words_in_le (code_of a.code) (length a.room.now))

pub returns-in-Err-clause-err : goal.returns-in-Err-clause-err
returns-in-Err-clause-err c =
    let none = bad (goal.at.returns-in-Err-clause-err c).In-Err in
    (rw none.0 at none.1, ap BadWord none.0)

pub loop-i-preserved : goal.loop-i-preserved
loop-i-preserved c =
    let loop = c.loop-i in
    filling_step loop.invariant c.loop-i-test.true (omega arith) (sym c.byte_at.ensures ∙ c.in-Ok.is)

pub returns-in-Nrz-clause-ok : goal.returns-in-Nrz-clause-ok
returns-in-Nrz-clause-ok c =
    let a = c.args in
    let n : ℕ = length a.room.now in
    rw c.in-Nrz.is (nrz_words a.s.now a.start n, c.bytes.ensures ∙ nrz_bytes a.s.now a.start n)

pub returns-clause-ok : goal.returns-clause-ok
returns-clause-ok c = filling_end c.loop-i.invariant c.loop-i-test.false refl
