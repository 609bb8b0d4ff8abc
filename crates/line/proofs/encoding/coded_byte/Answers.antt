use mathlib.Core.Path.{sym}
use native.Mathlib.Omega.{arith}
use Rattle.line.proofs.CodeLaws.{lawful, sizes-le}
use Rattle.line.proofs.CodingLaws.{coding_start, coding_step, coding_room, coding_end}
use Rattle.line.proofs.EncodingLaws.{gather-sent_chip_behind}
use Rattle.line.proofs.encoding.coded_byte.Goals as goal

pub returns-then-s-i : goal.returns-then-s-i
returns-then-s-i c =
    let a = c.args in
    sym (gather-sent_chip_behind (lawful a.code) a.s.now a.i c.if-s-i.true)

pub loop-k-init : goal.loop-k-init
loop-k-init c =
    coding_start
    (record {
      law = lawful c.args.code;
      b-eq = c.bits-b.ensures;
      w-eq = c.width-w.ensures;
      m-eq = c.per_byte-k-end.ensures;
    })
    (c.from-x.ensures, omega (arith, c.type_inv.s c.args.i))

pub join-all-requires : goal.join-all-requires
join-all-requires c =
    let inv = c.loop-k.invariant in
    let room = coding_room inv c.loop-k-test.true c.part.ensures c.word_of-word.ensures in
    omega (arith, sizes-le inv.sizes)

pub loop-k-preserved : goal.loop-k-preserved
loop-k-preserved c =
    let inv = c.loop-k.invariant in
    rw c.join-all.ensures
    (coding_step inv c.loop-k-test.true c.part.ensures c.word_of-word.ensures)

pub returns : goal.returns
returns c =
    let left = c.if-s-i.false in
    coding_end c.loop-k.invariant left c.loop-k-test.false
