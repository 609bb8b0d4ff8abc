use Rattle.std.proofs.Common.{◌≡◌, ◌∙◌, ◌+◌, ◌-◌, ◌/◌, ◌%◌, arith}
use Rattle.address.specs.Names.{name_bytes}
use Rattle.address.proofs.StoreLaws.{part_stored}
use Rattle.address.proofs.put_name.Goals as goal

pub returns : goal.returns
returns c =
    let a = c.args in
    let high : a.name.m / 256 % 256 ≡ a.name.m / 256 = omega arith in
    part_stored (name_bytes a.name) a.out.now a.k (a.k + 8 - a.k) (omega arith) (omega arith)
    (c.copy_from_slice.ensures.after ∙ rw (c.to_le_bytes.ensures, high))
