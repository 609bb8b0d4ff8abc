-- The bytes of the word's first and last chip, shifted up to the place and down to the width.
use mathlib.Core.Path.{◌≡◌, refl}
use Prim.Native.Nat.{ℕ, ◌+◌, ◌-◌, ◌*◌, ◌/◌, ◌%◌, ◌^◌}
use native.Mathlib.Omega.{arith}
use lib.ListN.{get_or}
use Rattle.chips.proofs.WindowLaws.{word_at_narrow}
use Rattle.chips.proofs.narrow.Goals as goal

pub returns : goal.returns
returns c =
    let a = c.args in
    let first = a.at / 8 in
    let last = (a.at + a.w - 1) / 8 in
    let up : ℕ = (get_or a.s.now first 0 * 256 + get_or a.s.now last 0) * 2 ^ (a.at % 8) in
    let low : up % 65536 ≡ up % 2 ^ 64 % 65536 = omega arith in
    rw (c.from-3.ensures, c.from.ensures, c.from-2.ensures, low)
    (word_at_narrow a.s.now a.at a.w (omega arith) (omega arith) (refl, omega (arith, c.type_inv.s first))
    (refl, omega (arith, c.type_inv.s last)))
