-- `correction::header::announced` meets its contract. Assumes nothing.
use mathlib.Core.Path.{sym}
use native.Mathlib.Omega.{arith}
use Rattle.codewords.proofs.HeaderLaws.{announced_short, announced_known, announced_unknown}
use Rattle.correction.proofs.header.announced.Goals as goal

pub returns-in_default : goal.returns-in_default
returns-in_default c = sym (announced_short c.args.s.now c.in_default.len_below)

pub returns-then-id-ne1 : goal.returns-then-id-ne1
returns-then-id-ne1 c =
    sym (announced_unknown c.args.s.now c.in-len2-up.len_at_least (omega (arith, c.from_le_bytes.ensures))
    c.id.ensures c.if-id-ne1.true)

pub returns : goal.returns
returns c =
    sym (announced_known c.args.s.now c.in-len2-up.len_at_least (omega (arith, c.from_le_bytes.ensures))
    c.id.ensures c.if-id-ne1.false)
