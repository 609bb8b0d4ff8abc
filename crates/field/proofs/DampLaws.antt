-- How a word is made to lose a byte that is not 0: each byte is multiplied by its own locator plus c. The locator of a
-- byte is g to the number of bytes behind it. Where c is a byte's own locator, that byte becomes 0, and the others stay
-- other than 0 if they were; and each value of the new word comes from two neighbouring values of the old.
--     weight                     how many elements of a list are not 0
--     weight_one                 one more element is at most one more
--     weight-le                  at most all
--     weight_zeros               a list of the weight 0 is zeros
--     damp                       a word with each byte times its locator plus c
--     length_damp, bytes_damp    as many bytes as before
--     damp_value                 its value at g^j, from the old ones at g^(j + 1) and g^j
--     damp_weight                with the locator of a place in front of it the word keeps its weight
-- Assumes nothing.
use Rattle.std.proofs.Common.{◌≡◌, refl, sym, ap, ap₂, ◌∙◌, List, [], ◌∷◌, ℕ, zero, suc, ◌+◌, ◌<◌, ◌≤◌, arith}
use Rattle.std.proofs.Common.{pos_of_ne-zero, bit_xor, length, replicate}
use lib.Bits.{xor_lt}
use Rattle.ground.specs.Bytes.{Bytes}
use Rattle.ground.proofs.ByteLaws.{bytes-nil, bytes-cons}
use Rattle.ground.proofs.XorLaws.{xor_swap, xor_equal}
use Rattle.field.specs.Field.{mul, alpha_to}
use Rattle.field.specs.Polynomials.{eval_from, value_at}
use Rattle.field.proofs.FieldLaws.{mul-xor_l, mul-xor_r, mul-zero_l, mul_one, mul_swap, mul_assoc, mul-lt}
use Rattle.field.proofs.PowerLaws.{alpha_to-lt}
use Rattle.field.proofs.PrimitiveLaws.{mul_cancel}
use Rattle.field.proofs.StepLaws.{step_to, step_to-add, steps_differ}

-- ---- weight

unfoldable pub weight : List ℕ → ℕ
weight [] = 0
weight (zero ∷ w) = weight w
weight (suc x ∷ w) = suc (weight w)

pub weight_one : (x : ℕ) (w : List ℕ) → weight (x ∷ w) ≤ suc (weight w)
unfolding weight
weight_one zero w = omega arith
weight_one (suc x) w = omega arith

pub weight-le : (w : List ℕ) → weight w ≤ length w
unfolding weight
weight-le [] = omega arith
weight-le (x ∷ w) = omega (arith, weight_one x w, weight-le w)

pub weight_zeros : (w : List ℕ) → weight w ≡ 0 → w ≡ replicate (length w) 0
unfolding weight
weight_zeros [] z = refl
weight_zeros (zero ∷ w) z = ap {B = List ℕ} (λ (v : List ℕ). 0 ∷ v) (weight_zeros w z)
weight_zeros (suc x ∷ w) z = absurd (omega arith)

weight-cons : (x : ℕ) (w : List ℕ) → 0 < x → weight (x ∷ w) ≡ suc (weight w)
unfolding weight
weight-cons zero w pos = absurd (omega arith)
weight-cons (suc x) w pos = refl

-- ---- the damped word

unfoldable pub damp : ℕ → List ℕ → List ℕ
damp c [] = []
damp c (x ∷ w) = mul x (bit_xor (step_to (length w)) c) ∷ damp c w

pub length_damp : (c : ℕ) (w : List ℕ) → length (damp c w) ≡ length w
unfolding damp
length_damp c [] = refl
length_damp c (x ∷ w) = ap suc (length_damp c w)

pub bytes_damp : (c : ℕ) (w : List ℕ) → Bytes w → Bytes (damp c w)
unfolding damp
bytes_damp c [] b = bytes-nil
bytes_damp c (x ∷ w) b = bytes-cons _ (damp c w) (mul-lt x _ (b 0)) (bytes_damp c w (λ j. b (suc j)))

-- ---- its values, by one induction over what the two old values and the new one begin with

steps_on : (a m n : ℕ) → a < 256 → mul (mul a (step_to m)) (step_to n) ≡ mul a (step_to (m + n))
steps_on a m n h = mul_assoc a (step_to m) (step_to n) h (alpha_to-lt _) ∙ ap (mul a) (step_to-add m n)

crossed : (a n j : ℕ) → a < 256 → mul (mul a (step_to (suc n))) (step_to j) ≡ mul (mul a (step_to (suc j))) (step_to n)
crossed a n j h =
    let e : suc n + j ≡ suc j + n = omega arith in
    steps_on a (suc n) j h ∙ ap (λ (k : ℕ). mul a (step_to k)) e ∙ sym (steps_on a (suc j) n h)

damp_next : (a b c x n j : ℕ) → a < 256
    → bit_xor (mul (bit_xor (mul a (step_to (suc n))) (mul b c)) (step_to j)) (mul x (bit_xor (step_to n) c))
    ≡ bit_xor (mul (bit_xor (mul a (step_to (suc j))) x) (step_to n)) (mul (bit_xor (mul b (step_to j)) x) c)
damp_next a b c x n j h =
    let s = step_to n in
    let r = step_to j in
    ap₂ bit_xor (mul-xor_l (mul a (step_to (suc n))) (mul b c) r) (mul-xor_r x s c)
    ∙ xor_swap (mul (mul a (step_to (suc n))) r) (mul (mul b c) r) (mul x s) (mul x c)
    ∙ ap₂ bit_xor
    (ap (λ (y : ℕ). bit_xor y (mul x s)) (crossed a n j h) ∙ sym (mul-xor_l (mul a (step_to (suc j))) x s))
    (ap (λ (y : ℕ). bit_xor y (mul x c)) (mul_swap b c r) ∙ sym (mul-xor_l (mul b r) x c))

damp_eval : (a b c j : ℕ) (w : List ℕ) → a < 256 → Bytes w
    → eval_from (step_to j) (bit_xor (mul a (step_to (length w))) (mul b c)) (damp c w)
    ≡ bit_xor (eval_from (step_to (suc j)) a w) (mul (eval_from (step_to j) b w) c)
unfolding eval_from damp alpha_to
damp_eval a b c j [] h bytes = ap (λ (s : ℕ). bit_xor s (mul b c)) (mul_one a)
damp_eval a b c j (x ∷ w) h bytes =
    ap (λ (s : ℕ). eval_from (step_to j) s (damp c w)) (damp_next a b c x (length w) j h)
    ∙ damp_eval (bit_xor (mul a (step_to (suc j))) x) (bit_xor (mul b (step_to j)) x) c j w
    (xor_lt 8 (mul a (step_to (suc j))) x (mul-lt a _ h) (bytes 0)) (λ k. bytes (suc k))

pub damp_value : (c j : ℕ) (w : List ℕ) → Bytes w
    → value_at (step_to j) (damp c w) ≡ bit_xor (value_at (step_to (suc j)) w) (mul (value_at (step_to j) w) c)
damp_value c j w b =
    ap (λ (s : ℕ). eval_from (step_to j) s (damp c w))
    (sym (ap₂ bit_xor (mul-zero_l (step_to (length w))) (mul-zero_l c))) ∙ damp_eval 0 0 c j w (omega arith) b

-- ---- its weight

sum_positive : (p q : ℕ) → p < q → q < 255 → 0 < bit_xor (step_to p) (step_to q)
sum_positive p q h k =
    pos_of_ne-zero
    (λ z. let e : p ≡ q = steps_differ p q (omega arith) k (xor_equal (step_to p) (step_to q) z) in omega arith)

factor_positive : (x p q : ℕ) → 0 < x → x < 256 → p < q → q < 255 → 0 < mul x (bit_xor (step_to p) (step_to q))
factor_positive x p q pos small h k =
    let c_lt = xor_lt 8 (step_to p) (step_to q) (alpha_to-lt _) (alpha_to-lt _) in
    pos_of_ne-zero (λ z. let e : x ≡ 0 = mul_cancel x _ small c_lt (sum_positive p q h k) z in omega arith)

pub damp_weight :
    (q : ℕ) (w : List ℕ) → length w ≤ q → q < 255 → Bytes w → weight (damp (step_to q) w) ≡ weight w
unfolding weight damp
damp_weight q [] h k b = refl
damp_weight q (zero ∷ w) h k b =
    ap (λ (x : ℕ). weight (x ∷ damp (step_to q) w)) (mul-zero_l _) ∙ damp_weight q w (omega arith) k (λ j. b (suc j))
damp_weight q (suc x ∷ w) h k b =
    weight-cons _ (damp (step_to q) w) (factor_positive (suc x) (length w) q (omega arith) (b 0) h k)
    ∙ ap suc (damp_weight q w (omega arith) k (λ j. b (suc j)))
