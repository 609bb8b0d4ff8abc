-- `correction::division::Remainder::to_bytes` meets its contract. Assumes nothing.
use mathlib.Core.Path.{◌∙◌}
use Rattle.correction.proofs.WordLaws.{bytes_put}
use Rattle.correction.proofs.division.Remainder.to_bytes.Goals as goal

pub returns : goal.returns
returns c =
    bytes_put c.args.self (c.copy_from_slice.ensures.after ∙ c.to_be_bytes.ensures)
    (c.copy_from_slice-2.ensures.after ∙ c.to_be_bytes-2.ensures)
    (c.copy_from_slice-3.ensures.after ∙ c.to_be_bytes-3.ensures)
    (c.copy_from_slice-4.ensures.after ∙ c.to_be_bytes-4.ensures)
