-- `correction::writing::check_bytes` meets its contract. Assumes nothing.
use mathlib.Core.Path.{sym, ap, ◌∙◌}
use lib.ListN.{length}
use lib.Seq.{length-take-le}
use Rattle.codewords.proofs.DivisionLaws.{length-checks_of}
use Rattle.correction.proofs.writing.check_bytes.Goals as goal

pub copy_from_slice-requires : goal.copy_from_slice-requires
copy_from_slice-requires c =
    length-take-le 32 c.args.out.now c.if-out-lt-CHECKS.false
    ∙ sym (ap length c.checks.ensures ∙ length-checks_of c.args.w.now)
