-- Bits of bytes (specs/Damage) as lists, and which of them differ.
--     pattern old new               a 1 for each bit that came inverted, a 0 for each that did not
--     length_bits_of .. bits_digits  how many bits, bytes behind bytes, and that bits are digits
--     pattern_digits                patterns are digits
--     pattern-append                bytes behind bytes
--     pattern-inverted              the pattern is not 0 just where a bit came inverted
--     pattern_ones                  so it has as many ones as bits came inverted
--     pattern_self                  bytes that came as they were sent have a pattern of zeros
--     damaged-pattern               damage has a pattern that is not zeros
-- Assumes nothing.
use mathlib.Core.Bool.{cond}
use mathlib.Core.List.{List, [], ◌∷◌, ◌++◌, map, append_assoc}
use mathlib.Core.Path.{◌≡◌, refl, sym, ap, ap₂, ◌∙◌}
use Prim.Native.Nat.{ℕ, zero, suc, ◌+◌, ◌*◌, ◌/◌, ◌%◌, ◌^◌, ◌<◌}
use native.Mathlib.Omega.{arith}
use lib.Bits.{bit_xor, xor_lt, xor_self}
use lib.Dec.{eqb}
use lib.ListN.{length, get_or, length-append}
use Rattle.ground.specs.Apart.{apart}
use Rattle.ground.specs.Sums.{xors}
use Rattle.ground.proofs.SumLaws.{length-xors, xors-append, get_or-xors}
use Rattle.ground.proofs.XorLaws.{xor_equal}
use Rattle.patterns.proofs.Patterns.{Digits, Zeros, ones}
use Rattle.damage.specs.Damage.{places, bits_of, Inverted, Damaged, inverted}

abbrev pub pattern : List ℕ → List ℕ → List ℕ
pattern old new = xors (bits_of old) (bits_of new)

-- the bits of one byte
abbrev pub byte_bits : ℕ → List ℕ
byte_bits b = map (λ k. b / 2 ^ k % 2) places

pub length_bits_of : (s : List ℕ) → length (bits_of s) ≡ 8 * length s
unfolding bits_of
length_bits_of [] = refl
length_bits_of (b ∷ s) = omega (arith, length-append (byte_bits b) (bits_of s), length_bits_of s)

pub bits_of_append : (s t : List ℕ) → bits_of (s ++ t) ≡ bits_of s ++ bits_of t
unfolding bits_of
bits_of_append [] t = refl
bits_of_append (b ∷ s) t = rw (bits_of_append s t) (sym (append_assoc (byte_bits b) (bits_of s) (bits_of t)))

digits_append : (u v : List ℕ) → Digits u → Digits v → Digits (u ++ v)
digits_append [] v d e p = e p
digits_append (x ∷ u) v d e zero = d 0
digits_append (x ∷ u) v d e (suc p) = digits_append u v (λ q. d (suc q)) e p

digits_map : (b : ℕ) (ks : List ℕ) (p : ℕ) → get_or (map (λ k. b / 2 ^ k % 2) ks) p 0 < 2
digits_map b [] p = omega arith
digits_map b (k ∷ ks) zero = omega arith
digits_map b (k ∷ ks) (suc p) = digits_map b ks p

pub bits_digits : (s : List ℕ) → Digits (bits_of s)
unfolding bits_of
bits_digits [] = λ p. omega arith
bits_digits (b ∷ s) = digits_append (byte_bits b) (bits_of s) (digits_map b places) (bits_digits s)

pub pattern-nil : pattern [] [] ≡ []
unfolding bits_of xors
pattern-nil = refl

pub pattern_self : (u v : List ℕ) → u ≡ v → Zeros (pattern u v)
pattern_self u v e p =
    ap (λ (x : List ℕ). get_or (pattern u x) p 0) (sym e) ∙ get_or-xors (bits_of u) (bits_of u) p refl
    ∙ xor_self (get_or (bits_of u) p 0)

-- two digits
xor_apart : (x y : ℕ) → x < 2 → y < 2 → bit_xor x y ≡ cond (eqb x y) 0 1
xor_apart zero zero hx hy = refl
xor_apart zero (suc zero) hx hy = refl
xor_apart (suc zero) zero hx hy = refl
xor_apart (suc zero) (suc zero) hx hy = refl
xor_apart zero (suc (suc y)) hx hy = absurd (omega arith)
xor_apart (suc zero) (suc (suc y)) hx hy = absurd (omega arith)
xor_apart (suc (suc x)) y hx hy = absurd (omega arith)

ones_apart : (u v : List ℕ) → Digits u → Digits v → length u ≡ length v → ones (xors u v) ≡ apart u v
unfolding ones xors apart
ones_apart [] v d e count = refl
ones_apart (x ∷ u) [] d e count = absurd (omega arith)
ones_apart (x ∷ u) (y ∷ v) d e count =
    ap₂ (λ (m n : ℕ). m + n) (xor_apart x y (d 0) (e 0))
    (ones_apart u v (λ p. d (suc p)) (λ p. e (suc p)) (omega arith))

module _ (old new : List ℕ) (count : length new ≡ length old) where
  bits_count : length (bits_of old) ≡ length (bits_of new)
  bits_count = omega (arith, length_bits_of old, length_bits_of new)

  pub length-pattern : length (pattern old new) ≡ 8 * length old
  length-pattern = length-xors (bits_of old) (bits_of new) bits_count ∙ length_bits_of old

  pub pattern_at : (p : ℕ)
      → get_or (pattern old new) p 0 ≡ bit_xor (get_or (bits_of old) p 0) (get_or (bits_of new) p 0)
  pattern_at p = get_or-xors (bits_of old) (bits_of new) p bits_count

  pub pattern_digits : Digits (pattern old new)
  pattern_digits p =
      rw (pattern_at p)
      (xor_lt 1 (get_or (bits_of old) p 0) (get_or (bits_of new) p 0) (bits_digits old p) (bits_digits new p))

  pub pattern-inverted : (p : ℕ) → (get_or (pattern old new) p 0 ≡ 0 → ⊥) → Inverted old new p
  pattern-inverted p one same =
      one (pattern_at p ∙ rw same (xor_self (get_or (bits_of old) p 0)))

  pub inverted-pattern : (p : ℕ) → Inverted old new p → get_or (pattern old new) p 0 ≡ 0 → ⊥
  inverted-pattern p differs none =
      differs (sym (xor_equal (get_or (bits_of old) p 0) (get_or (bits_of new) p 0) (sym (pattern_at p) ∙ none)))

  pub pattern-append : (s t : List ℕ) → pattern (old ++ s) (new ++ t) ≡ pattern old new ++ pattern s t
  pattern-append s t =
      rw (bits_of_append old s, bits_of_append new t)
      (xors-append (bits_of old) (bits_of s) (bits_of new) (bits_of t) bits_count)

  pub pattern_ones : ones (pattern old new) ≡ inverted old new
  pattern_ones = ones_apart (bits_of old) (bits_of new) (bits_digits old) (bits_digits new) bits_count

pub damaged-pattern : {old new : List ℕ} → Damaged old new → Zeros (pattern old new) → ⊥
damaged-pattern {old} {new} d z = inverted-pattern old new d.count d.place d.differs (z d.place)
