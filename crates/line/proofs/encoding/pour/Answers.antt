use mathlib.Core.Path.{refl, ◌∙◌}
use Prim.Native.Nat.{◌+◌, ◌*◌, ◌^◌, ◌≤◌}
use native.Mathlib.Omega.{arith}
use Rattle.chips.specs.Packing.{packed}
use Rattle.line.proofs.CodeLaws.{lawful, unit_of_ge}
use Rattle.line.proofs.EncodingLaws.{sent_chip-lt}
use Rattle.line.proofs.PouringLaws.{Held, pouring_start, held_more, held-lt, pouring_step, pouring_end}
use Rattle.line.specs.Codes.{code_of}
use Rattle.line.specs.Encoding.{encoding}
use Rattle.line.specs.Inner.{sent_chip}
use Rattle.line.proofs.encoding.pour.Goals.{then-count-lt8, else-count-lt8, After-coded_byte, Joined-count-lt8}
use Rattle.line.proofs.encoding.pour.Goals as goal

-- the chips at hand, with those of one byte more
more : (c : After-coded_byte)
    → let u = c.unit-unit.result in
    let a = c.args in
    let now = c.loop-byte in
    Held (sent_chip (code_of a.code) a.s.now) u (now.held * 2 ^ u + c.coded_byte.result) (now.count + u)
    (now.i + 1) now.byte-index
more c =
    held_more c.loop-byte.invariant.at_hand (rw c.unit-unit.ensures c.coded_byte.ensures)

-- at least eight chips are at hand
ready : (c : Joined-count-lt8)
    → let a = c.args in
    Held (sent_chip (code_of a.code) a.s.now) c.unit-unit.result c.if-count-lt8.held c.if-count-lt8.count
    c.if-count-lt8.i
    c.loop-byte.byte-index × ((8 ≤ c.if-count-lt8.count) × (c.if-count-lt8.count ≤ 23))
ready c =
    let inv = c.loop-byte.invariant in
    elim c.if-count-lt8.branch [
      | then-count-lt8 w ↦ (
        rw (w.held-is ∙ w.join-held.ensures, w.count-is, w.i-is)
            (held_more inv.at_hand (rw c.unit-unit.ensures w.coded_byte.ensures)),
        (
          omega (arith, w.count-is, inv.source.unit_ge),
          omega
              (arith, w.count-is, inv.source.unit_le, w.if-count-lt8.true),
        ),
      )
      | else-count-lt8 w ↦ (
        rw (w.held-is, w.count-is, w.i-is) inv.at_hand,
        (omega (arith, w.count-is, w.if-count-lt8.false), omega (arith, w.count-is, inv.few)),
      )
    ]

pub loop-byte-init : goal.loop-byte-init
loop-byte-init c =
    let a = c.args in
    let law = lawful a.code in
    let bit = sent_chip-lt (code_of a.code) a.s.now in
    rw c.unit-unit.ensures (pouring_start (record { bit = bit; unit_ge = unit_of_ge law; unit_le = law.unit_le }))

pub join-held-requires : goal.join-held-requires
join-held-requires c =
    let inv = c.loop-byte.invariant in
    let source = inv.source in
    omega (
      arith,
      source.unit_le,
      held-lt source.bit (more (goal.at.join-held-requires c).After-coded_byte)
          (omega (arith, source.unit_le, c.if-count-lt8.true)),
    )

pub loop-byte-preserved : goal.loop-byte-preserved
loop-byte-preserved c =
    rw (c.low-held.ensures, c.part.ensures)
    (pouring_step c.loop-byte.invariant (ready (goal.at.loop-byte-preserved c).Joined-count-lt8) c.loop-byte-test.true
    (omega arith))

pub returns : goal.returns
unfolding encoding packed
returns c = rw (← c.requires) (pouring_end c.loop-byte.invariant c.loop-byte-test.false refl)
