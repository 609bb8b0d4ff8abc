use Rattle.std.proofs.Common.{◌∙◌, ◌+◌, ◌-◌, arith}
use Rattle.address.specs.Keys.{four_bytes}
use Rattle.address.proofs.StoreLaws.{part_stored}
use Rattle.address.proofs.put_number.Goals as goal

pub returns : goal.returns
returns c =
    let a = c.args in
    part_stored (four_bytes a.n) a.out.now a.k (a.k + 4 - a.k) (omega arith) (omega arith)
    (c.copy_from_slice.ensures.after ∙ c.to_be_bytes.ensures)
