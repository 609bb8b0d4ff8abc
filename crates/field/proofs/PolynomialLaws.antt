-- Polynomials over the field (specs/Polynomials): their values, by Horner's rule.
--     eval_append                  coefficients behind coefficients
--     eval_xors                    the value of a sum, with what each begins with
--     value_cons                   a value begins with the first coefficient
--     zeros_front                  zeros in front change nothing
--     eval_lt                      a value of bytes is a byte
--     length_scaled, length-by_root, bytes_scaled, bytes-by_root    what the products are lists of
--     get_or_scaled                  a coefficient of a polynomial times an element
--     eval_scaled, value_scaled    the value of a polynomial times an element
--     value_by_root                 the value of a polynomial times x + s
--     value_at_root                is 0 at s
--     value_stays_zero             and 0 where it was 0 before
-- Assumes nothing.
use Rattle.std.proofs.Common.{◌≡◌, refl, sym, ap, ap₂, ◌∙◌, List, [], ◌∷◌, ◌++◌, ℕ, zero, suc, ◌<◌, arith, bit_xor}
use Rattle.std.proofs.Common.{length, get_or, replicate, length-append}
use lib.Bits.{xor_lt, xor_self, xor_zero_r}
use Rattle.ground.specs.Bytes.{Bytes}
use Rattle.ground.specs.Sums.{xors}
use Rattle.ground.proofs.ByteLaws.{bytes-nil, bytes-cons, bytes-append}
use Rattle.ground.proofs.XorLaws.{xor_swap}
use Rattle.ground.proofs.SumLaws.{length-xors, bytes-xors}
use Rattle.field.specs.Field.{mul}
use Rattle.field.specs.Polynomials.{eval_from, value_at, scaled, by_root}
use Rattle.field.proofs.FieldLaws.{mul-xor_l, mul-xor_r, mul-zero_l, mul-zero_r, mul-lt, mul_comm, mul_assoc}

-- ---- values

pub eval_append : (r a : ℕ) (u v : List ℕ) → eval_from r a (u ++ v) ≡ eval_from r (eval_from r a u) v
unfolding eval_from
eval_append r a [] v = refl
eval_append r a (x ∷ u) v = eval_append r (bit_xor (mul a r) x) u v

pub eval_xors : (r a b : ℕ) (u v : List ℕ) → length u ≡ length v
    → eval_from r (bit_xor a b) (xors u v) ≡ bit_xor (eval_from r a u) (eval_from r b v)
unfolding eval_from xors
eval_xors r a b [] [] e = refl
eval_xors r a b [] (y ∷ v) e = absurd (omega arith)
eval_xors r a b (x ∷ u) [] e = absurd (omega arith)
eval_xors r a b (x ∷ u) (y ∷ v) e =
    ap (λ (s : ℕ). eval_from r s (xors u v))
    (ap (λ (s : ℕ). bit_xor s (bit_xor x y)) (mul-xor_l a b r) ∙ xor_swap (mul a r) (mul b r) x y)
    ∙ eval_xors r (bit_xor (mul a r) x) (bit_xor (mul b r) y) u v (omega arith)

pub value_cons : (r x : ℕ) (w : List ℕ) → value_at r (x ∷ w) ≡ eval_from r x w
unfolding eval_from
value_cons r x w = ap (λ (s : ℕ). eval_from r (bit_xor s x) w) (mul-zero_l r)

pub zeros_front : (r n : ℕ) (w : List ℕ) → value_at r (replicate n 0 ++ w) ≡ value_at r w
zeros_front r zero w = refl
zeros_front r (suc n) w = value_cons r 0 (replicate n 0 ++ w) ∙ zeros_front r n w

next-lt : (r a b : ℕ) → a < 256 → b < 256 → bit_xor (mul a r) b < 256
next-lt r a b ha hb = xor_lt 8 (mul a r) b (mul-lt a r ha) hb

pub eval_lt : (r a : ℕ) (w : List ℕ) → a < 256 → Bytes w → eval_from r a w < 256
unfolding eval_from
eval_lt r a [] h b = h
eval_lt r a (x ∷ w) h b = eval_lt r (bit_xor (mul a r) x) w (next-lt r a x h (b 0)) (λ j. b (suc j))

-- ---- products

pub length_scaled : (c : ℕ) (w : List ℕ) → length (scaled c w) ≡ length w
unfolding scaled
length_scaled c [] = refl
length_scaled c (x ∷ w) = ap suc (length_scaled c w)

pub bytes_scaled : (c : ℕ) (w : List ℕ) → c < 256 → Bytes (scaled c w)
unfolding scaled
bytes_scaled c [] h = bytes-nil
bytes_scaled c (x ∷ w) h = bytes-cons (mul c x) (scaled c w) (mul-lt c x h) (bytes_scaled c w h)

pub get_or_scaled : (c : ℕ) (w : List ℕ) (j : ℕ) → get_or (scaled c w) j 0 ≡ mul c (get_or w j 0)
unfolding scaled
get_or_scaled c [] j = sym (mul-zero_r c)
get_or_scaled c (x ∷ w) zero = refl
get_or_scaled c (x ∷ w) (suc j) = get_or_scaled c w j

pub eval_scaled : (r c a : ℕ) (w : List ℕ) → c < 256 → a < 256 → Bytes w
    → eval_from r (mul c a) (scaled c w) ≡ mul c (eval_from r a w)
unfolding eval_from scaled
eval_scaled r c a [] hc ha b = refl
eval_scaled r c a (x ∷ w) hc ha b =
    ap (λ (s : ℕ). eval_from r s (scaled c w))
    (ap (λ (s : ℕ). bit_xor s (mul c x)) (mul_assoc c a r hc ha) ∙ sym (mul-xor_r c (mul a r) x))
    ∙ eval_scaled r c (bit_xor (mul a r) x) w hc (next-lt r a x ha (b 0)) (λ j. b (suc j))

pub value_scaled :
    (r c : ℕ) (w : List ℕ) → c < 256 → Bytes w → value_at r (scaled c w) ≡ mul c (value_at r w)
value_scaled r c w h b =
    ap (λ (s : ℕ). eval_from r s (scaled c w)) (sym (mul-zero_r c)) ∙ eval_scaled r c 0 w h (omega arith) b

-- the two that `by_root` adds are of one length
raised : (s : ℕ) (w : List ℕ) → length (w ++ (0 ∷ [])) ≡ length (0 ∷ scaled s w)
raised s w = simp (length-append, length_scaled) (omega arith)

pub length-by_root : (s : ℕ) (w : List ℕ) → length (by_root s w) ≡ suc (length w)
length-by_root s w =
    length-xors (w ++ (0 ∷ [])) (0 ∷ scaled s w) (raised s w) ∙ raised s w ∙ ap suc (length_scaled s w)

pub bytes-by_root : (s : ℕ) (w : List ℕ) → s < 256 → Bytes w → Bytes (by_root s w)
bytes-by_root s w h b =
    bytes-xors (w ++ (0 ∷ [])) (0 ∷ scaled s w)
    (bytes-append w (0 ∷ []) b (bytes-cons 0 [] (omega arith) bytes-nil))
    (bytes-cons 0 (scaled s w) (omega arith) (bytes_scaled s w h))

value_raised : (r : ℕ) (w : List ℕ) → value_at r (w ++ (0 ∷ [])) ≡ mul (value_at r w) r
unfolding eval_from
value_raised r w = eval_append r 0 w (0 ∷ []) ∙ xor_zero_r (mul (value_at r w) r)

pub value_by_root :
    (r s : ℕ) (w : List ℕ) → s < 256 → Bytes w → value_at r (by_root s w) ≡ mul (value_at r w) (bit_xor r s)
value_by_root r s w h b =
    eval_xors r 0 0 (w ++ (0 ∷ [])) (0 ∷ scaled s w) (raised s w)
    ∙ ap₂ bit_xor (value_raised r w)
    (value_cons r 0 (scaled s w) ∙ value_scaled r s w h b ∙ mul_comm s (value_at r w) h (eval_lt r 0 w (omega arith) b))
    ∙ sym (mul-xor_r (value_at r w) r s)

pub value_at_root : (s : ℕ) (w : List ℕ) → s < 256 → Bytes w → value_at s (by_root s w) ≡ 0
value_at_root s w h b =
    value_by_root s s w h b ∙ ap (mul (value_at s w)) (xor_self s) ∙ mul-zero_r (value_at s w)

pub value_stays_zero :
    (r s : ℕ) (w : List ℕ) → s < 256 → Bytes w → value_at r w ≡ 0 → value_at r (by_root s w) ≡ 0
value_stays_zero r s w h b z =
    value_by_root r s w h b ∙ ap (λ (v : ℕ). mul v (bit_xor r s)) z ∙ mul-zero_l (bit_xor r s)
