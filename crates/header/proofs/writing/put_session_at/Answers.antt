use Rattle.std.proofs.Common.{◌≡◌, ◌∙◌, ◌+◌, ◌-◌, ◌/◌, ◌%◌, arith}
use Rattle.address.proofs.StoreLaws.{part_stored}
use Rattle.header.specs.Layout.{session_bytes}
use Rattle.header.proofs.writing.put_session_at.Goals as goal

pub returns : goal.returns
returns c =
    let a = c.args in
    let sn = a.session.sn in
    let first : sn % 256 ≡ sn % 65536 % 256 = omega arith in
    let second : sn / 256 % 256 ≡ sn % 65536 / 256 = omega arith in
    let fourth : sn / 16777216 % 256 ≡ sn / 65536 / 256 = omega arith in
    part_stored (session_bytes a.session) a.out.now a.k (a.k + 6 - a.k) (omega arith) (omega arith)
    (c.copy_from_slice.ensures.after ∙ rw (c.to_le_bytes.ensures, first, second, fourth))
