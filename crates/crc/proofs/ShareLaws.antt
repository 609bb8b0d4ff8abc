-- Laws of a byte's share in the register, `share_of`: what lets an update take few steps.
--     share_of_zero       the share of the byte 00
--     share_of_digits     the share of a byte from that of its upper bits and that of the byte 01
--     share_of_next       the same in a loop over the bits, highest first
--     bit-mul-lt         a bit times a register is a register
--     next_share, ones_listed   a table of the shares of 01 for every distance, each worked out from the one before it
-- Assumes nothing.
use mathlib.Core.Bool.{Bool}
use mathlib.Core.Path.{◌≡◌, refl, sym, ap, ap₂, ◌∙◌}
use mathlib.Core.List.{List}
use Prim.Native.Nat.{ℕ, zero, suc, ◌+◌, ◌*◌, ◌-◌, ◌/◌, ◌%◌, ◌^◌, ◌<◌, ◌≤◌}
use native.Mathlib.Nat.{zero-mul, one-mul}
use native.Mathlib.Omega.{arith}
use lib.Bits.{bit_xor, xor_zero_r, xor_shifted}
use lib.Pow.{shr-shr, shr_le}
use lib.Dec.{T, eqb, eqb→eq}
use lib.ListN.{length, get_or, replicate, length-replicate}
use Rattle.ground.proofs.TableLaws.{all_below, all_below_at}
use Rattle.crc.specs.Check.{bit_in, bits_in, byte_in, reg_of}
use Rattle.crc.specs.CheckUpdate.{share_of, farthest}
use Rattle.crc.proofs.CheckLaws.{bit_in_low, bits_in-xor, reg_of_added}
use Rattle.crc.proofs.RemainderLaws.{bits_in_commute}

-- t lists the shares of the byte 01 for every distance
pub record Ones (t : List ℕ) : Type 0 where
  pub count : length t ≡ suc farthest
  pub share : (k : ℕ) → k ≤ farthest → get_or t k 0 ≡ share_of 1 k

-- one more zero byte
reg_of_zeros_suc : (k r : ℕ) → byte_in (reg_of r (replicate k 0)) 0 ≡ reg_of r (replicate (suc k) 0)
unfolding reg_of
reg_of_zeros_suc zero r = refl
reg_of_zeros_suc (suc k) r = reg_of_zeros_suc k (byte_in r 0)

share_of_suc : (x k : ℕ) → byte_in (share_of x k) 0 ≡ share_of x (suc k)
unfolding share_of reg_of
share_of_suc x k = reg_of_zeros_suc k (byte_in 0 x)

byte_in-bit_in : (r : ℕ) → byte_in (bit_in r) 0 ≡ bit_in (byte_in r 0)
unfolding byte_in
byte_in-bit_in r = rw (xor_zero_r (bit_in r), xor_zero_r r) (bits_in_commute 8 r)

reg_of_zeros_bit_in : (k r : ℕ) → reg_of (bit_in r) (replicate k 0) ≡ bit_in (reg_of r (replicate k 0))
unfolding reg_of
reg_of_zeros_bit_in zero r = refl
reg_of_zeros_bit_in (suc k) r =
    ap (λ (v : ℕ). reg_of v (replicate k 0)) (byte_in-bit_in r) ∙ reg_of_zeros_bit_in k (byte_in r 0)

reg_of_zeros_xor : (k r s : ℕ)
    → reg_of (bit_xor r s) (replicate k 0) ≡ bit_xor (reg_of r (replicate k 0)) (reg_of s (replicate k 0))
reg_of_zeros_xor k r s = reg_of_added r s (replicate k 0) ∙ rw (length-replicate {A = ℕ} k 0)

pub share_of_zero : (k : ℕ) → share_of 0 k ≡ 0
unfolding share_of reg_of byte_in bits_in bit_in
share_of_zero zero = refl
share_of_zero (suc k) = share_of_zero k

-- a byte in the upper half of the register, by its lowest bit and the rest
upper_digits : (y : ℕ) → y < 256 → y * 256 ≡ bit_xor (bit_in (y / 2 * 256)) (y % 2 * 256)
upper_digits y h =
    let whole : y * 256 ≡ y / 2 * 512 + y % 2 * 256 = omega arith in
    let shifted : y / 2 * 256 * 2 % 65536 ≡ y / 2 * 512 = omega arith in
    whole ∙ sym (xor_shifted (y / 2) 9 (y % 2 * 256) (omega arith))
    ∙ ap (λ (v : ℕ). bit_xor v (y % 2 * 256)) (sym shifted ∙ bit_in_low (y / 2 * 256) (omega arith))

byte_in_digits : (y : ℕ) → y < 256 → byte_in 0 y ≡ bit_xor (bit_in (byte_in 0 (y / 2))) (byte_in 0 (y % 2))
unfolding byte_in
byte_in_digits y h =
    ap (bits_in 8) (upper_digits y h) ∙ bits_in-xor 8 (bit_in (y / 2 * 256)) (y % 2 * 256)
    ∙ ap (λ (v : ℕ). bit_xor v (bits_in 8 (y % 2 * 256))) (bits_in_commute 8 (y / 2 * 256))

share_of_bit : (t k : ℕ) → t < 2 → share_of t k ≡ t * share_of 1 k
share_of_bit zero k h = share_of_zero k ∙ sym (zero-mul (share_of 1 k))
share_of_bit (suc zero) k h = sym (one-mul (share_of 1 k))
share_of_bit (suc (suc t)) k h = absurd (omega arith)

pub share_of_digits : (y k : ℕ) → y < 256 → share_of y k ≡ bit_xor (bit_in (share_of (y / 2) k)) (y % 2 * share_of 1 k)
unfolding share_of reg_of
share_of_digits y k h =
    ap (λ (v : ℕ). reg_of v (replicate k 0)) (byte_in_digits y h)
    ∙ reg_of_zeros_xor k (bit_in (byte_in 0 (y / 2))) (byte_in 0 (y % 2))
    ∙ ap₂ bit_xor (reg_of_zeros_bit_in k (byte_in 0 (y / 2))) (share_of_bit (y % 2) k (omega arith))

-- the same where a byte's bits come highest first: k of them are left, one of them comes next
pub share_of_next : (x k d : ℕ) → 0 < k → x < 256
    → bit_xor (bit_in (share_of (x / 2 ^ k) d)) (x / 2 ^ (k - 1) % 2 * share_of 1 d) ≡ share_of (x / 2 ^ (k - 1)) d
share_of_next x k d some byte =
    let back : k - 1 + 1 ≡ k = omega arith in
    let half : x / 2 ^ (k - 1) / 2 ≡ x / 2 ^ k = shr-shr x (k - 1) 1 ∙ ap (λ (j : ℕ). x / 2 ^ j) back in
    let small : x / 2 ^ (k - 1) < 256 = omega (arith, shr_le x (k - 1)) in
    rw (← half) (sym (share_of_digits (x / 2 ^ (k - 1)) d small))

-- a bit times a register is a register
pub bit-mul-lt : (t r : ℕ) → t < 2 → r < 65536 → t * r < 65536
bit-mul-lt zero r ht hr = rw zero-mul (omega arith)
bit-mul-lt (suc zero) r ht hr = rw one-mul hr
bit-mul-lt (suc (suc t)) r ht hr = absurd (omega arith)

-- ---- a table of the shares of 01, each worked out from the one before it

unfoldable pub next_share : List ℕ → ℕ → Bool
next_share t k = eqb (get_or t (suc k) 0) (byte_in (get_or t k 0) 0)

module _ (t : List ℕ) (size : length t ≡ 126) (first : get_or t 0 0 ≡ share_of 1 0)
    (steps : T (all_below (next_share t) 125)) where
  listed_at : (k : ℕ) → k ≤ farthest → get_or t k 0 ≡ share_of 1 k
  unfolding next_share
  listed_at zero h = first
  listed_at (suc k) h =
      eqb→eq (get_or t (suc k) 0) (byte_in (get_or t k 0) 0) (all_below_at (next_share t) 125 steps k (omega arith))
      ∙ ap (λ (r : ℕ). byte_in r 0) (listed_at k (omega arith)) ∙ share_of_suc 1 k

  pub ones_listed : Ones t
  ones_listed = record { count = size; share = listed_at }
