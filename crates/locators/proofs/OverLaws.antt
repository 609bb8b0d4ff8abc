-- Sums over the bytes of a word. The place of a byte is the number of bytes behind it.
--     over h w          each byte times what h has for its place, added up
--     over_same         of h only what it has for the places of w counts
--     over_sum          a sum of two
--     over_times        each times one element
--     over-lt           a sum of bytes times something is a byte
--     over_none         nothing but zeros
--     over_alone        zeros but for one byte
--     over-set          one byte changed
--     eval_first        a value, from that of the first coefficient
--     value_over        the value of a word at a power of g is such a sum
-- Assumes nothing.
use Rattle.std.proofs.Common.{◌≡◌, refl, sym, ap, ap₂, ◌∙◌, List, [], ◌∷◌, ℕ, zero, suc, ◌+◌, ◌-◌, ◌*◌, ◌<◌, mul-zero}
use Rattle.std.proofs.Common.{arith, bit_xor, length, get_or, set, length-set}
use lib.Bits.{xor_lt, xor_zero_r}
use Rattle.ground.specs.Bytes.{Bytes}
use Rattle.ground.proofs.XorLaws.{xor_swap, xor_assoc, xor_last}
use Rattle.field.specs.Field.{mul, alpha_to}
use Rattle.field.specs.Polynomials.{eval_from, value_at}
use Rattle.field.proofs.FieldLaws.{mul-xor_l, mul-xor_r, mul-zero_l, mul_one, mul-lt, mul_assoc}
use Rattle.field.proofs.PowerLaws.{alpha_to-lt}
use Rattle.field.proofs.StepLaws.{step_to, step_to-add}
use Rattle.field.proofs.PolynomialLaws.{value_cons}

unfoldable pub over : (ℕ → ℕ) → List ℕ → ℕ
over h [] = 0
over h (x ∷ w) = bit_xor (mul x (h (length w))) (over h w)

pub over_same : (h k : ℕ → ℕ) (w : List ℕ) → ((p : ℕ) → p < length w → h p ≡ k p) → over h w ≡ over k w
unfolding over
over_same h k [] e = refl
over_same h k (x ∷ w) e =
    ap₂ (λ (a b : ℕ). bit_xor (mul x a) b) (e (length w) (omega arith)) (over_same h k w (λ p l. e p (omega arith)))

pub over_sum : (h k : ℕ → ℕ) (w : List ℕ) → over (λ p. bit_xor (h p) (k p)) w ≡ bit_xor (over h w) (over k w)
unfolding over
over_sum h k [] = refl
over_sum h k (x ∷ w) =
    let n = length w in
    ap₂ bit_xor (mul-xor_r x (h n) (k n)) (over_sum h k w)
    ∙ xor_swap (mul x (h n)) (mul x (k n)) (over h w) (over k w)

pub over_times : (h : ℕ → ℕ) (c : ℕ) (w : List ℕ) → Bytes w → ((p : ℕ) → h p < 256)
    → over (λ p. mul (h p) c) w ≡ mul (over h w) c
unfolding over
over_times h c [] b small = sym (mul-zero_l c)
over_times h c (x ∷ w) b small =
    let n = length w in
    ap₂ bit_xor (sym (mul_assoc x (h n) c (b 0) (small n))) (over_times h c w (λ j. b (suc j)) small)
    ∙ sym (mul-xor_l (mul x (h n)) (over h w) c)

pub over-lt : (h : ℕ → ℕ) (w : List ℕ) → Bytes w → over h w < 256
unfolding over
over-lt h [] b = omega arith
over-lt h (x ∷ w) b =
    xor_lt 8 (mul x (h (length w))) (over h w) (mul-lt x _ (b 0)) (over-lt h w (λ j. b (suc j)))

-- ---- few bytes count

last_place : (n i : ℕ) → suc n - suc (suc i) ≡ n - suc i
last_place n i = omega arith

first_place : (n : ℕ) → suc n - 1 ≡ n
first_place n = omega arith

-- what byte i of a word counts
abbrev counted : (ℕ → ℕ) → List ℕ → ℕ → ℕ
counted h w i = mul (get_or w i 0) (h (length w - suc i))

counted_first : (h : ℕ → ℕ) (x : ℕ) (w : List ℕ) → counted h (x ∷ w) 0 ≡ mul x (h (length w))
counted_first h x w = ap (λ (p : ℕ). mul x (h p)) (first_place (length w))

counted_later : (h : ℕ → ℕ) (x : ℕ) (w : List ℕ) (i : ℕ) → counted h (x ∷ w) (suc i) ≡ counted h w i
counted_later h x w i = ap (λ (p : ℕ). mul (get_or w i 0) (h p)) (last_place (length w) i)

pub over_none : (h : ℕ → ℕ) (w : List ℕ)
    → ((i : ℕ) → i < length w → mul (get_or w i 0) (h (length w - suc i)) ≡ 0) → over h w ≡ 0
unfolding over
over_none h [] z = refl
over_none h (x ∷ w) z =
    ap₂ bit_xor (sym (counted_first h x w) ∙ z 0 (omega arith))
    (over_none h w (λ i l. sym (counted_later h x w i) ∙ z (suc i) (omega arith)))

alone_first : (h : ℕ → ℕ) (x : ℕ) (w : List ℕ) → ((i : ℕ) → i < length w → counted h (x ∷ w) (suc i) ≡ 0)
    → over h (x ∷ w) ≡ counted h (x ∷ w) 0
unfolding over
alone_first h x w z =
    ap (bit_xor (mul x (h (length w)))) (over_none h w (λ i l. sym (counted_later h x w i) ∙ z i l))
    ∙ xor_zero_r (mul x (h (length w))) ∙ sym (counted_first h x w)

alone_later : (h : ℕ → ℕ) (x : ℕ) (w : List ℕ) (j : ℕ) → counted h (x ∷ w) 0 ≡ 0 → over h w ≡ counted h w j
    → over h (x ∷ w) ≡ counted h (x ∷ w) (suc j)
unfolding over
alone_later h x w j none rest = ap₂ bit_xor (sym (counted_first h x w) ∙ none) rest ∙ sym (counted_later h x w j)

pub over_alone : (h : ℕ → ℕ) (w : List ℕ) (j : ℕ) → j < length w
    → ((i : ℕ) → i < length w → (i ≡ j → ⊥) → mul (get_or w i 0) (h (length w - suc i)) ≡ 0)
    → over h w ≡ mul (get_or w j 0) (h (length w - suc j))
over_alone h [] j here z = absurd (omega arith)
over_alone h (x ∷ w) zero here z = alone_first h x w (λ i l. z (suc i) (omega arith) (λ e. omega arith))
over_alone h (x ∷ w) (suc j) here z =
    alone_later h x w j (z 0 (omega arith) (λ e. omega arith)) (over_alone h w j (omega arith)
    (λ i l no. sym (counted_later h x w i) ∙ z (suc i) (omega arith) (λ e. no (omega arith))))

set_first : (h : ℕ → ℕ) (x e : ℕ) (w : List ℕ)
    → over h (bit_xor x e ∷ w) ≡ bit_xor (over h (x ∷ w)) (mul e (h (length w)))
unfolding over
set_first h x e w =
    let n = length w in
    ap (λ (a : ℕ). bit_xor a (over h w)) (mul-xor_l x e (h n)) ∙ xor_last (mul x (h n)) (mul e (h n)) (over h w)

set_later : (h : ℕ → ℕ) (x y : ℕ) (w w' : List ℕ) → length w' ≡ length w → over h w' ≡ bit_xor (over h w) y
    → over h (x ∷ w') ≡ bit_xor (over h (x ∷ w)) y
unfolding over
set_later h x y w w' same rest =
    ap₂ (λ (n a : ℕ). bit_xor (mul x (h n)) a) same rest ∙ sym (xor_assoc (mul x (h (length w))) (over h w) y)

pub over-set : (h : ℕ → ℕ) (w : List ℕ) (j e : ℕ) → j < length w
    → over h (set w j (bit_xor (get_or w j 0) e)) ≡ bit_xor (over h w) (mul e (h (length w - suc j)))
over-set h [] j e here = absurd (omega arith)
over-set h (x ∷ w) zero e here =
    set_first h x e w ∙ ap (λ (p : ℕ). bit_xor (over h (x ∷ w)) (mul e (h p))) (sym (first_place (length w)))
over-set h (x ∷ w) (suc j) e here =
    set_later h x _ w _ (length-set w j (bit_xor (get_or w j 0) e)) (over-set h w j e (omega arith))
    ∙ ap (λ (p : ℕ). bit_xor (over h (x ∷ w)) (mul e (h p))) (sym (last_place (length w) j))

-- ---- values

power_up : (j n : ℕ) → mul (step_to j) (step_to (j * n)) ≡ step_to (j * suc n)
power_up j n = let e : j + j * n ≡ j * suc n = omega arith in step_to-add j (j * n) ∙ ap step_to e

eval_none : (j a : ℕ) → a ≡ bit_xor (mul a (step_to (j * 0))) 0
unfolding alpha_to
eval_none j a =
    sym (xor_zero_r (mul a (step_to (j * 0))) ∙ ap (λ (n : ℕ). mul a (step_to n)) (mul-zero j) ∙ mul_one a)

next-lt : (j a x : ℕ) → a < 256 → x < 256 → bit_xor (mul a (step_to j)) x < 256
next-lt j a x ha hx = xor_lt 8 (mul a (step_to j)) x (mul-lt a (step_to j) ha) hx

-- the first of two coefficients counts one power more
first_two : (j a x n v : ℕ) → a < 256 → let s = step_to (j * n) in
    bit_xor (mul (bit_xor (mul a (step_to j)) x) s) v ≡ bit_xor (mul a (step_to (j * suc n))) (bit_xor (mul x s) v)
first_two j a x n v h =
    let r = step_to j in
    let s = step_to (j * n) in
    ap (λ (y : ℕ). bit_xor y v) (mul-xor_l (mul a r) x s) ∙ xor_assoc (mul (mul a r) s) (mul x s) v
    ∙ ap (λ (y : ℕ). bit_xor y (bit_xor (mul x s) v))
    (mul_assoc a r s h (alpha_to-lt (11 * j)) ∙ ap (mul a) (power_up j n))

pub eval_first : (j a : ℕ) (w : List ℕ) → a < 256 → Bytes w
    → eval_from (step_to j) a w ≡ bit_xor (mul a (step_to (j * length w))) (value_at (step_to j) w)
unfolding eval_from
eval_first j a [] h b = eval_none j a
eval_first j a (x ∷ w) h b =
    eval_first j _ w (next-lt j a x h (b 0)) (λ k. b (suc k)) ∙ first_two j a x (length w) (value_at (step_to j) w) h
    ∙ ap (bit_xor (mul a (step_to (j * suc (length w)))))
    (sym (eval_first j x w (b 0) (λ k. b (suc k))) ∙ sym (value_cons (step_to j) x w))

pub value_over : (j : ℕ) (w : List ℕ) → Bytes w → value_at (step_to j) w ≡ over (λ p. step_to (j * p)) w
unfolding eval_from over
value_over j [] b = refl
value_over j (x ∷ w) b =
    value_cons (step_to j) x w ∙ eval_first j x w (b 0) (λ k. b (suc k))
    ∙ ap (bit_xor (mul x (step_to (j * length w)))) (value_over j w (λ k. b (suc k)))
