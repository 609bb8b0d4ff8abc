-- How many bytes of a word must be other than 0 if it is 0 at many powers of g in a row: more than those powers are. So
-- two words that are 0 at the same 32 powers are one, or differ at more than 32 places.
--     vanish         a word with at most n bytes that are not 0, and 0 at n powers of g in a row, has none
--     ZeroFrom m     0 at 32 powers of g in a row, from g^m on
--     vanish-all     so at most 32 bytes that are 0 there are zeros
--     weight_apart   the sum of two words is 0 where they do not differ
--     distance       two words of one length, 0 there, that differ at no more than 32 places are one
-- Assumes nothing.
use Rattle.std.proofs.Common.{Bool, true, false, cond, ◌≡◌, refl, sym, ap, ap₂, ◌∙◌, subst, List, [], ◌∷◌, ℕ, zero, suc}
use Rattle.std.proofs.Common.{◌+◌, ◌*◌, ◌<◌, ◌≤◌, arith, bit_xor, T, eqb, eqb→eq, length, replicate}
use lib.Bits.{xor_self, xor_zero_r}
use Rattle.ground.specs.Apart.{apart}
use Rattle.ground.specs.Bytes.{Bytes}
use Rattle.ground.specs.Sums.{xors}
use Rattle.ground.proofs.SumLaws.{length-xors, bytes-xors, xors_equal}
use Rattle.field.specs.Field.{mul, alpha_to}
use Rattle.field.specs.Polynomials.{eval_from, value_at}
use Rattle.field.proofs.FieldLaws.{mul-zero_l, mul-zero_r, mul-lt}
use Rattle.field.proofs.PowerLaws.{power_cancel}
use Rattle.field.proofs.StepLaws.{step_to}
use Rattle.field.proofs.PolynomialLaws.{eval_xors, value_cons}
use Rattle.field.proofs.DampLaws.{weight, weight_one, weight-le, weight_zeros, damp, length_damp, bytes_damp, damp_value, damp_weight}

-- ---- the theorem

-- a first coefficient with zeros behind it: 0 at a power of alpha only if it is 0 itself
alone : (n a : ℕ) (w : List ℕ) → a < 256 → weight w ≡ 0 → eval_from (alpha_to n) a w ≡ 0 → a ≡ 0
unfolding eval_from weight
alone n a [] h none z = z
alone n a (zero ∷ w) h none z =
    let next = mul a (alpha_to n) in
    power_cancel a n h
    (alone n next w (mul-lt a (alpha_to n) h) none
    (ap (λ (s : ℕ). eval_from (alpha_to n) s w) (sym (xor_zero_r next)) ∙ z))
alone n a (suc x ∷ w) h none z = absurd (omega arith)

never_alone : (n x : ℕ) (w : List ℕ) → suc x < 256 → weight w ≡ 0 → value_at (alpha_to n) (suc x ∷ w) ≡ 0 → ⊥
never_alone n x w h none z =
    let gone : suc x ≡ 0 = alone n (suc x) w h none (sym (value_cons (alpha_to n) (suc x) w) ∙ z) in
    omega arith

-- damped by the locator of its first byte, a word loses that byte, and one of the powers in a row at which it is 0
without_first : (n m x : ℕ) (w : List ℕ) → Bytes (x ∷ w)
    → ((k : ℕ) → k < suc n → value_at (step_to (m + k)) (x ∷ w) ≡ 0)
    → (k : ℕ) → k < n → value_at (step_to (m + k)) (damp (step_to (length w)) w) ≡ 0
unfolding damp
without_first n m x w b z k h =
    let c = step_to (length w) in
    let r = step_to (m + k) in
    let e : suc (m + k) ≡ m + suc k = omega arith in
    sym (ap (λ (s : ℕ). value_at r (s ∷ damp c w)) (ap (mul x) (xor_self c) ∙ mul-zero_r x) ∙ value_cons r 0 (damp c w))
    ∙ damp_value c (m + k) (x ∷ w) b
    ∙ ap₂ (λ (s t : ℕ). bit_xor s (mul t c))
    (ap (λ (j : ℕ). value_at (step_to j) (x ∷ w)) e ∙ z (suc k) (omega arith)) (z k (omega arith))
    ∙ mul-zero_l c

pub vanish : (l n m : ℕ) (w : List ℕ) → length w ≤ l → l ≤ 255 → Bytes w → weight w ≤ n
    → ((k : ℕ) → k < n → value_at (step_to (m + k)) w ≡ 0) → weight w ≡ 0
unfolding weight
vanish zero n m [] short most b few z = refl
vanish zero n m (x ∷ w) short most b few z = absurd (omega arith)
vanish (suc l) n m [] short most b few z = refl
vanish (suc l) n m (zero ∷ w) short most b few z =
    vanish l n m w (omega arith) (omega arith) (λ j. b (suc j)) few
    (λ k h. sym (value_cons (step_to (m + k)) 0 w) ∙ z k h)
vanish (suc l) zero m (suc x ∷ w) short most b few z = absurd (omega arith)
vanish (suc l) (suc n) m (suc x ∷ w) short most b few z =
    let c = step_to (length w) in
    let kept : weight (damp c w) ≡ weight w = damp_weight (length w) w (omega arith) (omega arith) (λ j. b (suc j)) in
    let none : weight (damp c w) ≡ 0 =
    vanish l n m (damp c w) (omega (arith, length_damp c w)) (omega arith) (bytes_damp c w (λ j. b (suc j)))
    (omega arith) (without_first n m (suc x) w b z) in
    absurd (never_alone (11 * (m + 0)) x w (b 0) (omega arith) (z 0 (omega arith)))

abbrev pub ZeroFrom : ℕ → List ℕ → Type 0
ZeroFrom m w = (k : ℕ) → k < 32 → value_at (step_to (m + k)) w ≡ 0

pub vanish-all : (m : ℕ) (w : List ℕ) → length w ≤ 32 → Bytes w → ZeroFrom m w → w ≡ replicate (length w) 0
vanish-all m w h b z = weight_zeros w (vanish 32 32 m w h (omega arith) b (omega (arith, weight-le w)) z)

-- ---- two words

one_apart : (x y : ℕ) (w : List ℕ) (t : Bool) → eqb x y ≡ t → weight (bit_xor x y ∷ w) ≤ cond t 0 1 + weight w
unfolding weight
one_apart x y w true e =
    let same : x ≡ y = eqb→eq x y (subst T (sym e) tt) in
    let gone : bit_xor x y ≡ 0 = ap (bit_xor x) (sym same) ∙ xor_self x in
    omega (arith, ap (λ (s : ℕ). weight (s ∷ w)) gone)
one_apart x y w false e = omega (arith, weight_one (bit_xor x y) w)

pub weight_apart : (u v : List ℕ) → weight (xors u v) ≤ apart u v
unfolding weight xors apart
weight_apart [] v = omega arith
weight_apart (x ∷ u) [] = omega arith
weight_apart (x ∷ u) (y ∷ v) = omega (arith, one_apart x y (xors u v) (eqb x y) refl, weight_apart u v)

pub distance : (m : ℕ) (u v : List ℕ) → length u ≡ length v → length u ≤ 255 → Bytes u → Bytes v → ZeroFrom m u
    → ZeroFrom m v → apart u v ≤ 32 → u ≡ v
distance m u v e most bu bv zu zv near =
    let size : length (xors u v) ≡ length u = length-xors u v e in
    let none : weight (xors u v) ≡ 0 =
    vanish 255 32 m (xors u v) (omega arith) (omega arith) (bytes-xors u v bu bv) (omega (arith, weight_apart u v))
    (λ k h. eval_xors (step_to (m + k)) 0 0 u v e ∙ ap₂ bit_xor (zu k h) (zv k h)) in
    xors_equal u v e (weight_zeros (xors u v) none ∙ ap (λ (n : ℕ). replicate n 0) size)
