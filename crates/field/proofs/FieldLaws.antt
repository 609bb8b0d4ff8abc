-- The field of 256 elements (specs/Field). All but the laws of bytes hold for ALL numbers: a product shifts and adds.
--     up-xor                      a step up, of a sum
--     mul-xor_l, mul-xor_r        the product of a sum, on either side
--     mul-zero_l, mul-zero_r      0 times and times 0
--     mul_one                     times 1
--     mul_up                      a step up passes through the product
--     mul_swap                    the last two of three factors change places
--     up_lt, mul-lt               a product of a byte is a byte
--     one-mul                     1 times a byte: one computed row of 256, from which the next two follow
--     mul_comm, mul_assoc         for bytes, neither order nor brackets matter
-- Assumes nothing.
use Rattle.std.proofs.Common.{Bool, ◌≡◌, refl, sym, ap, ap₂, ◌∙◌, ℕ, zero, suc, ◌*◌, ◌/◌, ◌%◌, ◌<◌, arith, zero-mul}
use Rattle.std.proofs.Common.{bit_xor, eqb, eqb→eq}
use lib.Bits.{xor_shr, xor_mod, xor_self, xor_zero_r, xor_lt}
use Rattle.ground.proofs.XorLaws.{xor_swap, xor-shl}
use Rattle.ground.proofs.TableLaws.{all_below_at}
use Rattle.field.specs.Field.{up, times_bits, mul}

-- ---- a bit times a number

once : (a : ℕ) → 1 * a ≡ a
once a = omega arith

bit-lt : (t a : ℕ) → t < 2 → a < 256 → t * a < 256
bit-lt zero a ht ha = omega arith
bit-lt (suc zero) a ht ha = omega arith
bit-lt (suc (suc t)) a ht ha = absurd (omega arith)

bit-xor : (t u a : ℕ) → t < 2 → u < 2 → bit_xor t u * a ≡ bit_xor (t * a) (u * a)
bit-xor zero u a ht hu = rw (zero-mul a)
bit-xor (suc zero) zero a ht hu = rw (zero-mul a, xor_zero_r (1 * a))
bit-xor (suc zero) (suc zero) a ht hu = rw (xor_self (1 * a)) (zero-mul a)
bit-xor (suc zero) (suc (suc u)) a ht hu = absurd (omega arith)
bit-xor (suc (suc t)) u a ht hu = absurd (omega arith)

xor_bit : (t a b : ℕ) → t < 2 → t * bit_xor a b ≡ bit_xor (t * a) (t * b)
xor_bit zero a b h = simp zero-mul
xor_bit (suc zero) a b h = simp once
xor_bit (suc (suc t)) a b h = absurd (omega arith)

-- ---- linear in each argument

shifted-xor : (a b : ℕ) → bit_xor a b * 2 % 256 ≡ bit_xor (a * 2 % 256) (b * 2 % 256)
shifted-xor a b = ap (λ (x : ℕ). x % 256) (xor-shl a b 1) ∙ xor_mod (a * 2) (b * 2) 8

low-xor : (a b c : ℕ) → bit_xor a b % 2 * c ≡ bit_xor (a % 2 * c) (b % 2 * c)
low-xor a b c = ap (λ (x : ℕ). x * c) (xor_mod a b 1) ∙ bit-xor (a % 2) (b % 2) c (omega arith) (omega arith)

top_xor : (a b c : ℕ) → bit_xor a b / 128 % 2 * c ≡ bit_xor (a / 128 % 2 * c) (b / 128 % 2 * c)
top_xor a b c = ap (λ (x : ℕ). x % 2 * c) (xor_shr a b 7) ∙ low-xor (a / 128) (b / 128) c

pub up-xor : (a b : ℕ) → up (bit_xor a b) ≡ bit_xor (up a) (up b)
unfolding up
up-xor a b =
    ap₂ bit_xor (shifted-xor a b) (top_xor a b _)
    ∙ xor_swap (a * 2 % 256) (b * 2 % 256) (a / 128 % 2 * _) (b / 128 % 2 * _)

times_xor_l : (n a b c : ℕ) → times_bits n (bit_xor a b) c ≡ bit_xor (times_bits n a c) (times_bits n b c)
unfolding times_bits
times_xor_l zero a b c = refl
times_xor_l (suc n) a b c =
    ap₂ bit_xor (xor_bit (c % 2) a b (omega arith))
    (ap (λ (x : ℕ). times_bits n x (c / 2)) (up-xor a b) ∙ times_xor_l n (up a) (up b) (c / 2))
    ∙ xor_swap (c % 2 * a) (c % 2 * b) (times_bits n (up a) (c / 2)) (times_bits n (up b) (c / 2))

times_xor_r : (n a b c : ℕ) → times_bits n a (bit_xor b c) ≡ bit_xor (times_bits n a b) (times_bits n a c)
unfolding times_bits
times_xor_r zero a b c = refl
times_xor_r (suc n) a b c =
    ap₂ bit_xor (low-xor b c a) (ap (times_bits n (up a)) (xor_shr b c 1) ∙ times_xor_r n (up a) (b / 2) (c / 2))
    ∙ xor_swap (b % 2 * a) (c % 2 * a) (times_bits n (up a) (b / 2)) (times_bits n (up a) (c / 2))

pub mul-xor_l : (a b c : ℕ) → mul (bit_xor a b) c ≡ bit_xor (mul a c) (mul b c)
unfolding mul
mul-xor_l a b c = times_xor_l 8 a b c

pub mul-xor_r : (a b c : ℕ) → mul a (bit_xor b c) ≡ bit_xor (mul a b) (mul a c)
unfolding mul
mul-xor_r a b c = times_xor_r 8 a b c

pub mul-zero_l : (b : ℕ) → mul 0 b ≡ 0
mul-zero_l b = mul-xor_l 0 0 b ∙ xor_self (mul 0 b)

pub mul-zero_r : (a : ℕ) → mul a 0 ≡ 0
mul-zero_r a = mul-xor_r a 0 0 ∙ xor_self (mul a 0)

pub mul_one : (a : ℕ) → mul a 1 ≡ a
unfolding mul times_bits
mul_one a =
    ap (bit_xor (1 * a)) (times_xor_r 7 (up a) 0 0 ∙ xor_self (times_bits 7 (up a) 0)) ∙ xor_zero_r (1 * a) ∙ once a

-- ---- what goes past sums and steps up goes past the product

module _ (f : ℕ → ℕ)
    (sums : (a b : ℕ) → f (bit_xor a b) ≡ bit_xor (f a) (f b)) (steps : (a : ℕ) → f (up a) ≡ up (f a)) where
  bit_through : (t a : ℕ) → t < 2 → f (t * a) ≡ t * f a
  bit_through zero a h = rw (zero-mul a, zero-mul (f a)) (sums 0 0 ∙ xor_self (f 0))
  bit_through (suc zero) a h = rw (once a, once (f a))
  bit_through (suc (suc t)) a h = absurd (omega arith)

  times_through : (n a b : ℕ) → f (times_bits n a b) ≡ times_bits n (f a) b
  unfolding times_bits
  times_through zero a b = sums 0 0 ∙ xor_self (f 0)
  times_through (suc n) a b =
      sums (b % 2 * a) (times_bits n (up a) (b / 2))
      ∙ ap₂ bit_xor (bit_through (b % 2) a (omega arith))
      (times_through n (up a) (b / 2) ∙ ap (λ (x : ℕ). times_bits n x (b / 2)) (steps a))

pub mul_up : (a b : ℕ) → mul (up a) b ≡ up (mul a b)
unfolding mul
mul_up a b = sym (times_through up up-xor (λ x. refl) 8 a b)

pub mul_swap : (a b c : ℕ) → mul (mul a b) c ≡ mul (mul a c) b
unfolding mul
mul_swap a b c = sym (times_through (λ x. mul x b) (λ x y. mul-xor_l x y b) (λ x. mul_up x b) 8 a c)

-- ---- bytes

pub up_lt : (a : ℕ) → up a < 256
unfolding up
up_lt a = xor_lt 8 (a * 2 % 256) (a / 128 % 2 * _) (omega arith) (omega arith)

times_lt : (n a b : ℕ) → a < 256 → times_bits n a b < 256
unfolding times_bits
times_lt zero a b h = omega arith
times_lt (suc n) a b h =
    xor_lt 8 (b % 2 * a) (times_bits n (up a) (b / 2)) (bit-lt (b % 2) a (omega arith) h)
    (times_lt n (up a) (b / 2) (up_lt a))

pub mul-lt : (a b : ℕ) → a < 256 → mul a b < 256
unfolding mul
mul-lt a b h = times_lt 8 a b h

-- for each of the 256 bytes, as antt works them out
same : ℕ → Bool
same b = eqb (mul 1 b) b

pub one-mul : (b : ℕ) → b < 256 → mul 1 b ≡ b
unfolding same mul times_bits up
one-mul b h = eqb→eq (mul 1 b) b (all_below_at same 256 tt b h)

pub mul_comm : (a b : ℕ) → a < 256 → b < 256 → mul a b ≡ mul b a
mul_comm a b ha hb =
    ap (λ (x : ℕ). mul x b) (sym (one-mul a ha)) ∙ mul_swap 1 a b ∙ ap (λ (x : ℕ). mul x a) (one-mul b hb)

pub mul_assoc : (a b c : ℕ) → a < 256 → b < 256 → mul (mul a b) c ≡ mul a (mul b c)
mul_assoc a b c ha hb =
    ap (λ (x : ℕ). mul x c) (mul_comm a b ha hb) ∙ mul_swap b a c ∙ mul_comm (mul b c) a (mul-lt b c hb) ha
