-- Taking cases apart: what a test that was made says, and that two different cases are never one.
--     by_test                what holds whichever way a test goes
--     and_left, and_right    both tests of an && hold where it holds
--     zero_not_one           where `cc` shows 0 ≡ 1, from two constructors that would be equal, nothing is left
use mathlib.Core.Bool.{Bool, true, false, ◌&&◌}
use mathlib.Core.Path.{◌≡◌, refl}
use Prim.Native.Nat.{ℕ}
use native.Mathlib.Omega.{arith}

pub by_test : {P : Type 0} (t : Bool) → (t ≡ true → P) → (t ≡ false → P) → P
by_test true f g = f refl
by_test false f g = g refl

pub and_left : (a b : Bool) → a && b ≡ true → a ≡ true
and_left true b h = refl
and_left false b h = h

pub and_right : (a b : Bool) → a && b ≡ true → b ≡ true
and_right true b h = h
and_right false b h = cc

pub zero_not_one : ◌≡◌ {A = ℕ} 0 1 → ⊥
zero_not_one h = omega arith
