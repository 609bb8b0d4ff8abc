-- The register after digits (Patterns): it is linear, and a step loses nothing.
--     left-append     digits behind digits
--     left-xor        what two patterns leave together is the sum of what each leaves
--     left_added      a register goes through digits as through zeros, which are steps
--     left_lt         sixteen digits
--     bit_in_none      a step leaves 0 only of 0
--     bits_in_none     so do n steps
--     bits_in_same     and n steps lead two registers to one only if they are one
-- Assumes nothing.
use mathlib.Core.List.{List, [], ◌∷◌, ◌++◌}
use mathlib.Core.Path.{◌≡◌, refl, sym, ap, ◌∙◌}
use Prim.Native.Nat.{ℕ, zero, suc, ◌+◌, ◌*◌, ◌%◌, ◌≤◌, ◌<◌}
use native.Mathlib.Omega.{arith}
use borrow.Author.Tests.{ltb-true, ltb-false}
use lib.Bits.{bit_xor, xor_lt, xor_zero_r, xor_self}
use lib.Dec.{ltb}
use lib.ListN.{length}
use Rattle.ground.specs.Sums.{xors}
use Rattle.ground.proofs.CaseLaws.{by_test}
use Rattle.ground.proofs.XorLaws.{xor_odd, xor_swap, xor_equal, xor_assoc}
use Rattle.crc.specs.Check.{bit_in, bits_in}
use Rattle.crc.proofs.CheckLaws.{bit_in_low, bit_in_high, bit_in-xor, bits_in-xor, bit_in-lt}
use Rattle.patterns.proofs.Patterns.{left, Digits}

-- ---- what digits leave

pub left-append : (r : ℕ) (u v : List ℕ) → left r (u ++ v) ≡ left (left r u) v
unfolding left
left-append r [] v = refl
left-append r (t ∷ u) v = left-append (bit_xor (bit_in r) t) u v

pub left-xor :
    (r s : ℕ) (u v : List ℕ) → length u ≡ length v → left (bit_xor r s) (xors u v) ≡ bit_xor (left r u) (left s v)
unfolding left xors
left-xor r s [] [] e = refl
left-xor r s [] (y ∷ v) e = absurd (omega arith)
left-xor r s (x ∷ u) [] e = absurd (omega arith)
left-xor r s (x ∷ u) (y ∷ v) e =
    ap (λ (w : ℕ). left w (xors u v))
    (ap (λ (w : ℕ). bit_xor w (bit_xor x y)) (bit_in-xor r s) ∙ xor_swap (bit_in r) (bit_in s) x y)
    ∙ left-xor (bit_xor (bit_in r) x) (bit_xor (bit_in s) y) u v (omega arith)

pub left_lt : (r : ℕ) (u : List ℕ) → r < 65536 → Digits u → left r u < 65536
unfolding left
left_lt r [] h d = h
left_lt r (t ∷ u) h d =
    left_lt (bit_xor (bit_in r) t) u (xor_lt 16 (bit_in r) t (bit_in-lt r) (omega (arith, d 0))) (λ p. d (suc p))

-- a pattern in the register goes through digits as through zeros, which are steps
pub left_added : (r : ℕ) (u : List ℕ) → left r u ≡ bit_xor (bits_in (length u) r) (left 0 u)
unfolding left bits_in bit_in
left_added r [] = sym (xor_zero_r r)
left_added r (t ∷ u) =
    left_added (bit_xor (bit_in r) t) u
    ∙ ap (λ (w : ℕ). bit_xor w (left 0 u)) (bits_in-xor (length u) (bit_in r) t)
    ∙ xor_assoc (bits_in (length u) (bit_in r)) (bits_in (length u) t) (left 0 u)
    ∙ ap (bit_xor (bits_in (length u) (bit_in r))) (sym (left_added t u))

-- ---- a step loses nothing

even_odd : (v : ℕ) → v % 2 ≡ 0 → 0 ≡ (v + 0x3D65) % 2 → ⊥
even_odd v even odd = omega arith

-- the register is odd where the polynomial was added last
pub bit_in_none : (r : ℕ) → r < 65536 → bit_in r ≡ 0 → r ≡ 0
bit_in_none r h none =
    by_test (ltb r 32768)
    (λ t.
    let low : r < 32768 = ltb-true r 32768 t in
    let whole : r * 2 % 65536 ≡ r * 2 = omega arith in
    let twice : r * 2 ≡ 0 = sym whole ∙ bit_in_low r low ∙ none in
    omega arith)
    (λ t.
    let high : 32768 ≤ r = ltb-false r 32768 t in
    let added : bit_xor (r * 2 % 65536) 0x3D65 ≡ 0 = bit_in_high r high h ∙ none in
    let even : r * 2 % 65536 % 2 ≡ 0 = omega arith in
    let odd : 0 ≡ (r * 2 % 65536 + 0x3D65) % 2 = sym (ap (λ (w : ℕ). w % 2) added) ∙ xor_odd (r * 2 % 65536) 0x3D65 in
    absurd (even_odd (r * 2 % 65536) even odd))

pub bits_in_none : (n r : ℕ) → r < 65536 → bits_in n r ≡ 0 → r ≡ 0
unfolding bits_in
bits_in_none zero r h none = none
bits_in_none (suc n) r h none = bit_in_none r h (bits_in_none n (bit_in r) (bit_in-lt r) none)

pub bits_in_same : (n r s : ℕ) → r < 65536 → s < 65536 → bits_in n r ≡ bits_in n s → r ≡ s
bits_in_same n r s hr hs same =
    xor_equal r s (bits_in_none n (bit_xor r s) (xor_lt 16 r s hr hs)
    (bits_in-xor n r s ∙ ap (λ (w : ℕ). bit_xor w (bits_in n s)) same ∙ xor_self (bits_in n s)))
