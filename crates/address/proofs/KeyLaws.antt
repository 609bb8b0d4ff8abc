-- Numbers with their highest byte first (specs/Keys), written and read back.
--     four_at-append, key_at_append    the number that is read where it was written
--     four_at-lt, key_at_lt            a number that was read fits its bytes
--     four_bytes-four_at, key_bytes_key_at    its bytes are those that stood there
--     bytes-four_bytes, bytes-key_bytes     what is written are bytes
-- Assumes nothing.
use mathlib.Core.List.{List, ◌++◌}
use mathlib.Core.Path.{◌≡◌, ap, ◌∙◌}
use Prim.Native.Nat.{ℕ, zero, suc, ◌+◌, ◌*◌, ◌/◌, ◌%◌, ◌<◌}
use native.Mathlib.Nat.{add_assoc}
use native.Mathlib.Numerals.{add-one, add-two, add-three, add-four}
use native.Mathlib.Omega.{arith}
use lib.ListN.{length, get_or}
use lib.Seq.{get_or-append_seam, get_or-append-add}
use Rattle.ground.specs.Bytes.{Bytes}
use Rattle.ground.proofs.ByteLaws.{bytes-nil, bytes-append}
use Rattle.address.specs.Keys.{four_bytes, four_at, key_bytes, key_at}
use Rattle.address.proofs.NameLaws.{bytes_from}

-- byte by byte, so that omega can join them
two_steps : (n : ℕ) → n / 65536 ≡ n / 256 / 256
two_steps n = omega arith

three_steps : (n : ℕ) → n / 16777216 ≡ n / 256 / 256 / 256
three_steps n = omega arith

four_joined :
    (n : ℕ) → n < 4294967296
    → ((n / 16777216 % 256 * 256 + n / 65536 % 256) * 256 + n / 256 % 256) * 256 + n % 256 ≡ n
four_joined n h = rw (three_steps n, two_steps n) (omega arith)

module _ (p q : List ℕ) where
  pub four_at-append : (n : ℕ) → n < 4294967296 → four_at (p ++ (four_bytes n ++ q)) (length p) ≡ n
  four_at-append n h = simp (get_or-append_seam, get_or-append-add) (four_joined n h)

  four_at-append-add : (n : ℕ) → four_at (p ++ q) (length p + n) ≡ four_at q n
  four_at-append-add n = simp (add_assoc, get_or-append-add)

pub key_at_append :
    (p q : List ℕ) (a : ℕ) → a < 18446744073709551616 → key_at (p ++ (key_bytes a ++ q)) (length p) ≡ a
key_at_append p q a h =
    let high = four_at-append p (four_bytes (a % 4294967296) ++ q) (a / 4294967296) (omega arith) in
    let low = four_at-append-add p (key_bytes a ++ q) 4 ∙ four_joined (a % 4294967296) (omega arith) in
    omega (arith, high, low)

module _ (s : List ℕ) (bytes : Bytes s) where
  module _ (k : ℕ) where
    pub four_at-lt : four_at s k < 4294967296
    four_at-lt = omega (arith, bytes k, bytes (k + 1), bytes (k + 2), bytes (k + 3))

    first_byte : four_at s k / 16777216 % 256 ≡ get_or s k 0
    first_byte = omega (arith, bytes k, bytes (k + 1), bytes (k + 2), bytes (k + 3))

    second_byte : four_at s k / 65536 % 256 ≡ get_or s (k + 1) 0
    second_byte = omega (arith, bytes (k + 1), bytes (k + 2), bytes (k + 3))

    third_byte : four_at s k / 256 % 256 ≡ get_or s (k + 2) 0
    third_byte = omega (arith, bytes (k + 2), bytes (k + 3))

    fourth_byte : four_at s k % 256 ≡ get_or s (k + 3) 0
    fourth_byte = omega (arith, bytes (k + 3))

    pub four_bytes-four_at : four_bytes (four_at s k) ≡ bytes_from 4 s k
    four_bytes-four_at = rw (first_byte, second_byte, third_byte, fourth_byte) (simp (add-one, add-two, add-three))

  module _ (k : ℕ) where
    high_half : key_at s k / 4294967296 ≡ four_at s k
    high_half = omega (arith, four_at-lt (k + 4))

    low_half : key_at s k % 4294967296 ≡ four_at s (k + 4)
    low_half = omega (arith, four_at-lt (k + 4))

    pub key_at_lt : key_at s k < 18446744073709551616
    key_at_lt = omega (arith, four_at-lt k, four_at-lt (k + 4))

    pub key_bytes_key_at : key_bytes (key_at s k) ≡ bytes_from 8 s k
    key_bytes_key_at =
        rw (high_half, low_half)
        (ap (λ (t : List ℕ). t ++ four_bytes (four_at s (k + 4))) (four_bytes-four_at k)
        ∙ ap (λ (t : List ℕ). bytes_from 4 s k ++ t) (four_bytes-four_at (k + 4)) ∙ simp add-four)

pub bytes-four_bytes : (n : ℕ) → Bytes (four_bytes n)
bytes-four_bytes n zero = omega arith
bytes-four_bytes n (suc zero) = omega arith
bytes-four_bytes n (suc (suc zero)) = omega arith
bytes-four_bytes n (suc (suc (suc zero))) = omega arith
bytes-four_bytes n (suc (suc (suc (suc j)))) = bytes-nil j

pub bytes-key_bytes : (a : ℕ) → Bytes (key_bytes a)
bytes-key_bytes a =
    bytes-append (four_bytes (a / 4294967296)) (four_bytes (a % 4294967296))
    (bytes-four_bytes (a / 4294967296)) (bytes-four_bytes (a % 4294967296))
