-- Laws of folding: a word of a span brought nearer to its end by shifts, where some power of x leaves the same as five
-- smaller ones. That it does is computed where the code says so, at the number 1.
--     moved_leaves, moved_lt    one word, five shifts
--     four_leaves, four-lt      the four words of a group
--     all_round                 151 steps lead back to where they began
--     onward_leaves             a word with sixteen bytes behind it
--     down_leaves               a word brought down to forty digits
-- Assumes nothing.
use mathlib.Core.Path.{◌≡◌, refl, sym, ap, ap₂, ◌∙◌}
use mathlib.Core.List.{[], ◌∷◌}
use Prim.Native.Nat.{ℕ, ◌+◌, ◌*◌, ◌/◌, ◌%◌, ◌^◌, ◌<◌, ◌≤◌}
use native.Mathlib.Nat.{mod-le, add_assoc}
use native.Mathlib.Omega.{arith}
use lib.Bits.{bit_xor, xor_lt, xor_comm}
use lib.Pow.{pow_mono, shl_lt, shl_exact}
use Rattle.crc.specs.Check.{bit_in, bits_in}
use Rattle.crc.specs.Inner.{remainder, nested, folded}
use Rattle.crc.proofs.CheckLaws.{bits_in-xor}
use Rattle.crc.proofs.RemainderLaws.{bits_in-add, rem_of-xor, rem_of_nested, remainder-shifted}
use Rattle.crc.proofs.WordLaws.{remainder_parts}

-- ---- one word, five shifts

-- one shift: a word w is added to t, which has k digits more, and both are moved by g digits
abbrev shifted : ℕ → ℕ → ℕ → ℕ
shifted t w g = bit_xor t w * 2 ^ g % 2 ^ 64

sum_lt : (t w m k : ℕ) → t < 2 ^ (m + k) → w < 2 ^ m → bit_xor t w < 2 ^ (m + k)
sum_lt t w m k ht hw = xor_lt (m + k) t w ht (omega (arith, pow_mono {i = m} {j = m + k} (omega arith)))

shifted-lt : (t w m k g : ℕ) → t < 2 ^ (m + k) → w < 2 ^ m → shifted t w g < 2 ^ (m + k + g)
shifted-lt t w m k g ht hw =
    omega (arith, mod-le (bit_xor t w * 2 ^ g) (2 ^ 64), shl_lt {a = bit_xor t w} (m + k) g (sum_lt t w m k ht hw))

shifted_leaves : (t w m k g x : ℕ) → t < 2 ^ (m + k) → w < 2 ^ m → m + k + g ≤ 64 → remainder t ≡ x
    → remainder (shifted t w g) ≡ bits_in g (bit_xor x (remainder w))
shifted_leaves t w m k g x ht hw fits is =
    let small = sum_lt t w m k ht hw in
    ap remainder (shl_exact (m + k) g 64 small fits) ∙ remainder-shifted g (m + k) (bit_xor t w) small fits
    ∙ ap (bits_in g) (rem_of-xor 64 t w ∙ ap (λ (y : ℕ). bit_xor y (remainder w)) is)

module _ (w a b c d e : ℕ) where
  -- the code's word after each of its shifts
  abbrev pub once : ℕ
  once = w * 2 ^ a % 2 ^ 64

  abbrev pub twice : ℕ
  twice = shifted once w b

  abbrev pub thrice : ℕ
  thrice = shifted twice w c

  abbrev pub last_but_one : ℕ
  last_but_one = shifted thrice w d

  abbrev pub all_five : ℕ
  all_five = shifted last_but_one w e

  module _ (m : ℕ) (h : w < 2 ^ m) where
    once-lt : once < 2 ^ (m + a)
    once-lt = omega (arith, mod-le (w * 2 ^ a) (2 ^ 64), shl_lt {a = w} m a h)

    twice-lt : twice < 2 ^ (m + (a + b))
    twice-lt = let same = add_assoc m a b in rw (← same) (shifted-lt once w m a b once-lt h)

    thrice-lt : thrice < 2 ^ (m + (a + b + c))
    thrice-lt = let same = add_assoc m (a + b) c in rw (← same) (shifted-lt twice w m (a + b) c twice-lt h)

    fourth_lt : last_but_one < 2 ^ (m + (a + b + c + d))
    fourth_lt = let same = add_assoc m (a + b + c) d in rw (← same) (shifted-lt thrice w m (a + b + c) d thrice-lt h)

    pub moved_lt : all_five < 2 ^ (m + (a + b + c + d + e))
    moved_lt =
        let same = add_assoc m (a + b + c + d) e in
        rw (← same) (shifted-lt last_but_one w m (a + b + c + d) e fourth_lt h)

  five_leaves : w < 2 ^ 32 → a + b + c + d + e ≤ 31
      → remainder all_five ≡ nested (e ∷ d ∷ c ∷ b ∷ a ∷ []) (remainder w)
  unfolding nested
  five_leaves h fits =
      let first : remainder once ≡ bits_in a (remainder w) =
      ap remainder (shl_exact 32 a 64 h (omega arith)) ∙ remainder-shifted a 32 w h (omega arith) in
      shifted_leaves last_but_one w 32 (a + b + c + d) e _ (fourth_lt 32 h) h (omega arith)
      (shifted_leaves thrice w 32 (a + b + c) d _ (thrice-lt 32 h) h (omega arith)
      (shifted_leaves twice w 32 (a + b) c _ (twice-lt 32 h) h (omega arith)
      (shifted_leaves once w 32 a b _ (once-lt 32 h) h (omega arith) first)))

  pub moved_leaves : (n : ℕ) → bits_in n 1 ≡ nested (e ∷ d ∷ c ∷ b ∷ a ∷ []) 1 → w < 2 ^ 32 → a + b + c + d + e ≤ 31
      → remainder all_five ≡ bits_in n (remainder w)
  moved_leaves n one h fits = five_leaves h fits ∙ sym (rem_of_nested n (e ∷ d ∷ c ∷ b ∷ a ∷ []) one 64 w)

-- ---- the words of a group, a word with bytes behind it, a word brought down

pub four_leaves : (p q r t x y z u : ℕ) → remainder x ≡ bits_in 112 (remainder p)
    → remainder y ≡ bits_in 80 (remainder q) → remainder z ≡ bits_in 48 (remainder r)
    → remainder u ≡ bits_in 16 (remainder t)
    → remainder (bit_xor (bit_xor (bit_xor x y) z) u)
    ≡ bit_xor
    (bit_xor (bit_xor (bits_in 112 (remainder p)) (bits_in 80 (remainder q))) (bits_in 48 (remainder r)))
    (bits_in 16 (remainder t))
four_leaves p q r t x y z u first second third fourth =
    rem_of-xor 64 (bit_xor (bit_xor x y) z) u
    ∙ ap₂ bit_xor
    (rem_of-xor 64 (bit_xor x y) z ∙ ap₂ bit_xor (rem_of-xor 64 x y ∙ ap₂ bit_xor first second) third) fourth

pub four-lt : (x y z u : ℕ) → x < folded → y < folded → z < folded → u < folded
    → bit_xor (bit_xor (bit_xor x y) z) u < folded
four-lt x y z u hx hy hz hu =
    xor_lt 54 (bit_xor (bit_xor x y) z) u (xor_lt 54 (bit_xor x y) z (xor_lt 54 x y hx hy) hz) hu

no_steps : (r : ℕ) → bits_in 0 r ≡ r
unfolding bits_in
no_steps r = refl

-- powers of x come round
round : bits_in 151 1 ≡ nested (0 ∷ []) 1
unfolding bit_in bits_in nested
round = refl

all_round : (m : ℕ) → bits_in 151 (remainder m) ≡ remainder m
unfolding nested
all_round m = rem_of_nested 151 (0 ∷ []) round 64 m ∙ no_steps (remainder m)

pub onward_leaves : (v x : ℕ) → v < 2 ^ 64 → remainder x ≡ bits_in 128 (remainder (v % 2 ^ 23))
    → remainder (bit_xor (v / 2 ^ 23) x) ≡ bits_in 128 (remainder v)
onward_leaves v x h lower =
    let high = remainder (v / 2 ^ 23) in
    let low = remainder (v % 2 ^ 23) in
    rem_of-xor 64 (v / 2 ^ 23) x
    ∙ ap₂ bit_xor (sym (all_round (v / 2 ^ 23)) ∙ sym (bits_in-add 128 23 high)) lower
    ∙ sym (bits_in-xor 128 (bits_in 23 high) low) ∙ ap (bits_in 128) (sym (remainder_parts 23 v (omega arith) h))

pub down_leaves : (v x : ℕ) → v < 2 ^ 64 → remainder x ≡ bits_in 40 (remainder (v / 2 ^ 40))
    → remainder (bit_xor (v % 2 ^ 40) x) ≡ remainder v
down_leaves v x h upper =
    rem_of-xor 64 (v % 2 ^ 40) x ∙ ap (bit_xor (remainder (v % 2 ^ 40))) upper
    ∙ xor_comm (remainder (v % 2 ^ 40)) (bits_in 40 (remainder (v / 2 ^ 40)))
    ∙ sym (remainder_parts 40 v (omega arith) h)
