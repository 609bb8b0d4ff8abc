-- Numbers of digits, as the code handles them.
--     add_one-mul    k + 1 groups of w
--     mul-add-le     k of m groups of w, and one more, lie in the m groups
use mathlib.Core.Path.{◌≡◌}
use Prim.Native.Nat.{ℕ, suc, ◌+◌, ◌*◌, ◌<◌, ◌≤◌}
use native.Mathlib.Nat.{one-mul, add-mul, suc-mul, mul-le-mul_right}

pub add_one-mul : (k w : ℕ) → (k + 1) * w ≡ k * w + w
add_one-mul k w = rw (add-mul, one-mul)

pub mul-add-le : (k m w : ℕ) → k < m → k * w + w ≤ m * w
mul-add-le k m w h = rw suc-mul at (mul-le-mul_right {m = suc k} {n = m} w h)
