use Rattle.std.proofs.Common.{[], ◌∷◌, ◌+◌, ◌-◌, arith}
use Rattle.address.proofs.StoreLaws.{part_stored}
use Rattle.address.proofs.put_four.Goals as goal

pub returns : goal.returns
returns c =
    let a = c.args in
    part_stored (a.a ∷ a.b ∷ a.c ∷ a.d ∷ []) a.out.now a.k (a.k + 4 - a.k) (omega arith) (omega arith)
    c.copy_from_slice.ensures.after
