-- Four bytes, first byte highest, make 32 chips.
use mathlib.Core.Path.{◌∙◌}
use native.Mathlib.Omega.{arith}
use Rattle.chips.proofs.WindowLaws.{word_at_four}
use Rattle.chips.proofs.four.Goals as goal

pub returns : goal.returns
returns c =
    let at = c.args in
    (c.from_be_bytes.ensures ∙ word_at_four at.s.now at.q c.type_inv.s, omega arith)
