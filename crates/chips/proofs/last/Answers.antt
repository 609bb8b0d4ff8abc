-- The bytes that are left, copied to the front of eight zeros.
use mathlib.Core.Path.{◌∙◌}
use native.Mathlib.Omega.{arith}
use Rattle.chips.proofs.WindowLaws.{word_at_rest}
use Rattle.chips.proofs.last.Goals as goal

pub returns : goal.returns
returns c =
    let at = c.args in
    c.from_be_bytes.ensures ∙ word_at_rest at.s.now at.q c.type_inv.s (omega arith) c.copy_from_slice.ensures.after
