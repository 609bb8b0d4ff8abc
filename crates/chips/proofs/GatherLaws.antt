-- Words of chips, put together and taken apart (specs/Chips).
--     gather-add      a word of a + b chips is its first a chips, shifted up by b, and its last b chips
--     gather-lt       a word of w chips is below 2 ^ w
--     gather_within   the b chips that stand a places into a window of a + b + c chips: shift c out, keep b
--     chip_at-lt       a chip is 0 or 1
use mathlib.Core.Path.{◌≡◌}
use mathlib.Core.List.{List}
use Prim.Native.Nat.{ℕ, zero, suc, ◌+◌, ◌*◌, ◌/◌, ◌%◌, ◌^◌, ◌<◌}
use native.Mathlib.Nat.{add-zero, add-suc, add_assoc, mul_assoc, pow-suc}
use native.Mathlib.Omega.{arith}
use lib.Pow.{high, low}
use Rattle.chips.specs.Chips.{gather, chip_at}

pub gather-add : (f : ℕ → ℕ) (at a b : ℕ) → gather f at (a + b) ≡ gather f at a * 2 ^ b + gather f (at + a) b
unfolding gather
gather-add f at a zero = rw add-zero (omega arith)
gather-add f at a (suc b) =
    let ih : gather f at (a + b) ≡ gather f at a * 2 ^ b + gather f (at + a) b = gather-add f at a b in
    let up : gather f at a * 2 ^ suc b ≡ gather f at a * 2 ^ b * 2 = rw (pow-suc, mul_assoc) in
    rw (add-suc, add_assoc at a b) (omega arith)

pub gather-lt : (f : ℕ → ℕ) → ((k : ℕ) → f k < 2) → (at w : ℕ) → gather f at w < 2 ^ w
unfolding gather
gather-lt f bit at zero = omega arith
gather-lt f bit at (suc w) =
    let ih : gather f at w < 2 ^ w = gather-lt f bit at w in
    rw pow-suc (omega (arith, bit (at + w)))

-- the chips before and behind the b chips are shifted out and cut off
pub gather_within : (f : ℕ → ℕ) → ((k : ℕ) → f k < 2) → (at a b c : ℕ)
    → gather f at (a + b + c) / 2 ^ c % 2 ^ b ≡ gather f (at + a) b
gather_within f bit at a b c =
    rw (gather-add f at (a + b) c, high (gather f at (a + b)) c (gather-lt f bit (at + (a + b)) c), gather-add f at a b)
    (low (gather f at a) b (gather-lt f bit (at + a) b))

pub chip_at-lt : (s : List ℕ) (k : ℕ) → chip_at s k < 2
chip_at-lt s k = omega arith
