-- A polynomial divided by x + r (specs/Inner), by Horner's rule: the values on the way to its value
-- at r are the coefficients.
--     length-quotient, bytes-quotient    as many coefficients as it is made of
--     quotient_first                     the first is that of the polynomial
--     quotient_law                       the values of the polynomial at y and r, added, are the quotient's value at y
--                                        times y + r
--     quotient-zero                      so where the polynomial is 0 at r and at another element, the quotient is 0
--                                        at this
-- Assumes nothing.
use Rattle.std.proofs.Common.{◌≡◌, refl, sym, ap, ap₂, ◌∙◌, List, [], ◌∷◌, ◌++◌, ℕ, suc, ◌<◌, pos_of_ne-zero, arith}
use Rattle.std.proofs.Common.{bit_xor, length, get_or}
use lib.Bits.{xor_lt, xor_self, xor_zero_r}
use Rattle.ground.specs.Bytes.{Bytes}
use Rattle.ground.proofs.ByteLaws.{bytes-nil, bytes-cons}
use Rattle.ground.proofs.XorLaws.{xor_swap, xor_assoc, xor_cancel_r, xor_equal}
use Rattle.field.specs.Field.{mul}
use Rattle.field.specs.Polynomials.{eval_from, value_at}
use Rattle.field.proofs.FieldLaws.{mul-xor_l, mul-xor_r, mul-zero_l, mul_swap, mul-lt}
use Rattle.field.proofs.PrimitiveLaws.{mul_cancel}
use Rattle.field.proofs.PolynomialLaws.{eval_append, eval_lt}
use Rattle.locators.specs.Inner.{partials, quotient}

pub length-partials : (r a : ℕ) (w : List ℕ) → length (partials r a w) ≡ length w
unfolding partials
length-partials r a [] = refl
length-partials r a (b ∷ w) = ap suc (length-partials r (bit_xor (mul a r) b) w)

pub bytes-partials : (r a : ℕ) (w : List ℕ) → a < 256 → Bytes w → Bytes (partials r a w)
unfolding partials
bytes-partials r a [] h b = bytes-nil
bytes-partials r a (x ∷ w) h b =
    let next = xor_lt 8 (mul a r) x (mul-lt a r h) (b 0) in
    bytes-cons _ (partials r (bit_xor (mul a r) x) w) next
    (bytes-partials r (bit_xor (mul a r) x) w next (λ j. b (suc j)))

pub quotient_first : (r : ℕ) (v : List ℕ) → get_or (quotient r v) 0 0 ≡ get_or v 0 0
unfolding partials
quotient_first r [] = refl
quotient_first r (x ∷ v) = ap (λ (y : ℕ). bit_xor y x) (mul-zero_l r)

-- ---- the law, by one induction over what the two values and the quotient's begin with

-- the value at y so far, from the quotient's and the value at r
carried : (y r p a q x : ℕ) → bit_xor (mul p y) (mul a r) ≡ mul q (bit_xor y r)
    → bit_xor (mul p y) x ≡ bit_xor (mul q (bit_xor y r)) (bit_xor (mul a r) x)
carried y r p a q x e =
    ap (λ (t : ℕ). bit_xor t x) (sym (xor_cancel_r (mul p y) (mul a r)) ∙ ap (λ (t : ℕ). bit_xor t (mul a r)) e)
    ∙ xor_assoc (mul q (bit_xor y r)) (mul a r) x

-- (q s + a) y + a r = (q y + a) s, where s = y + r
spread : (y r q a : ℕ) → let s = bit_xor y r in
    bit_xor (mul (bit_xor (mul q s) a) y) (mul a r) ≡ mul (bit_xor (mul q y) a) s
spread y r q a =
    let s = bit_xor y r in
    ap (λ (t : ℕ). bit_xor t (mul a r)) (mul-xor_l (mul q s) a y) ∙ xor_assoc (mul (mul q s) y) (mul a y) (mul a r)
    ∙ ap₂ bit_xor (mul_swap q s y) (sym (mul-xor_r a y r)) ∙ sym (mul-xor_l (mul q y) a s)

-- p y + a r = q (y + r) stays so with one coefficient more
balanced : (y r p a q x : ℕ) → bit_xor (mul p y) (mul a r) ≡ mul q (bit_xor y r)
    → let p' = bit_xor (mul p y) x in
    let a' = bit_xor (mul a r) x in
    bit_xor (mul p' y) (mul a' r) ≡ mul (bit_xor (mul q y) a') (bit_xor y r)
balanced y r p a q x e =
    let a' = bit_xor (mul a r) x in
    ap (λ (t : ℕ). bit_xor (mul t y) (mul a' r)) (carried y r p a q x e) ∙ spread y r q a'

divided : (y r p a q : ℕ) (v : List ℕ) → bit_xor (mul p y) (mul a r) ≡ mul q (bit_xor y r)
    → bit_xor (mul (eval_from y p v) y) (mul (eval_from r a v) r) ≡ mul (eval_from y q (partials r a v)) (bit_xor y r)
unfolding eval_from partials
divided y r p a q [] e = e
divided y r p a q (x ∷ v) e =
    divided y r (bit_xor (mul p y) x) (bit_xor (mul a r) x) (bit_xor (mul q y) (bit_xor (mul a r) x)) v
    (balanced y r p a q x e)

value_last : (r b : ℕ) (v : List ℕ) → value_at r (v ++ (b ∷ [])) ≡ bit_xor (mul (value_at r v) r) b
unfolding eval_from
value_last r b v = eval_append r 0 v (b ∷ [])

pub quotient_law : (y r b : ℕ) (v : List ℕ)
    → bit_xor (value_at y (v ++ (b ∷ []))) (value_at r (v ++ (b ∷ []))) ≡ mul (value_at y (quotient r v)) (bit_xor y r)
quotient_law y r b v =
    let f = mul (value_at y v) y in
    let g = mul (value_at r v) r in
    ap₂ bit_xor (value_last y b v) (value_last r b v) ∙ xor_swap f b g b
    ∙ ap (bit_xor (bit_xor f g)) (xor_self b) ∙ xor_zero_r (bit_xor f g)
    ∙ divided y r 0 0 0 v (ap₂ bit_xor (mul-zero_l y) (mul-zero_l r) ∙ sym (mul-zero_l (bit_xor y r)))

pub quotient-zero : (y r b : ℕ) (v : List ℕ) → y < 256 → r < 256 → Bytes v → (y ≡ r → ⊥)
    → value_at r (v ++ (b ∷ [])) ≡ 0 → value_at y (v ++ (b ∷ [])) ≡ 0 → value_at y (quotient r v) ≡ 0
quotient-zero y r b v hy hr bytes other zr zy =
    mul_cancel (value_at y (quotient r v)) (bit_xor y r)
    (eval_lt y 0 (quotient r v) (omega arith) (bytes-partials r 0 v (omega arith) bytes)) (xor_lt 8 y r hy hr)
    (pos_of_ne-zero (λ z. other (xor_equal y r z)))
    (sym (quotient_law y r b v) ∙ ap₂ bit_xor zy zr)
