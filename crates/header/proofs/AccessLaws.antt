-- The access is the row of Table 37 that the two bits name, and nothing else of CC has a part in it.
use mathlib.Core.Path.{◌≡◌, refl}
use mathlib.Core.Bool.{cond}
use Prim.Native.Nat.{ℕ, zero, suc, ◌+◌, ◌*◌, ◌<◌}
use native.Mathlib.Omega.{arith}
use lib.Dec.{eqb}
use Rattle.header.specs.AccessBits.{bit_a, bit_b, access_of, access_row}
use Rattle.header.specs.declared.access.Access.TheVariants.{NoAccess, NoneForNow, Limited, Unlimited}

-- the row of two bits, by the tests that the definition makes on them
row-bits :
    (b a : ℕ) → b < 2 → a < 2
    → access_row (cond (eqb b 0) (cond (eqb a 0) NoAccess NoneForNow) (cond (eqb a 0) Limited Unlimited)) ≡ 2 * b + a
row-bits zero zero p q = refl
row-bits zero (suc zero) p q = refl
row-bits (suc zero) zero p q = refl
row-bits (suc zero) (suc zero) p q = refl
row-bits zero (suc (suc a)) p q = absurd (omega arith)
row-bits (suc zero) (suc (suc a)) p q = absurd (omega arith)
row-bits (suc (suc b)) a p q = absurd (omega arith)

pub access_row-access_of : (x : ℕ) → access_row (access_of x) ≡ 2 * bit_b x + bit_a x
access_row-access_of x = row-bits (bit_b x) (bit_a x) (omega arith) (omega arith)
