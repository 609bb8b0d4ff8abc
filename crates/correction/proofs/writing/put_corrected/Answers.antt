-- `correction::writing::put_corrected` meets its contract. Assumes nothing.
use mathlib.Core.Path.{◌∙◌}
use native.Mathlib.Omega.{arith}
use Rattle.blocks.proofs.CopyLaws.{copied_part}
use Rattle.correction.proofs.PutLaws.{corrected_put}
use Rattle.correction.proofs.writing.put_corrected.Goals as goal

pub returns : goal.returns
returns c =
    let a = c.args in
    let frame = copied_part a.out.now a.s.now 0 a.size c.requires.0 (omega arith) c.copy.ensures in
    corrected_put a.s.now a.out.now a.size c.requires.0 frame
    (c.copy_from_slice.ensures.after ∙ c.to_le_bytes.ensures)
    (c.copy_from_slice-2.ensures.after ∙ c.checks.ensures)
