use Rattle.std.proofs.Common.{◌∙◌, ◌+◌, ◌-◌, arith}
use Rattle.address.specs.Keys.{key_bytes}
use Rattle.address.proofs.StoreLaws.{part_stored, high_first}
use Rattle.address.proofs.put_key.Goals as goal

pub returns : goal.returns
returns c =
    let a = c.args in
    part_stored (key_bytes a.a) a.out.now a.k (a.k + 8 - a.k) (omega arith) (omega arith)
    (c.copy_from_slice.ensures.after ∙ c.to_be_bytes.ensures ∙ high_first a.a)
