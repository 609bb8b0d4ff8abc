-- Values combined: products of coefficients, the last one first, and values from a place on, added up.
--     total          the products of pairs, added up
--     total-push     one more pair
--     value_beside, zip-cons   one more coefficient, beside its value
--     total_zip      with the coefficients the other way round this is what they combine the values to
-- Assumes nothing.
use Rattle.std.proofs.Common.{List, [], ◌∷◌, ◌++◌, ◌≡◌, refl, sym, ap, ◌∙◌, ℕ, ◌+◌, ◌≤◌, ◌<◌, arith, bit_xor}
use Rattle.std.proofs.Common.{length, get_or, drop, reverse, zip, get_or-drop, length-drop}
use Rattle.std.proofs.lemmas.Grind.{reverse_onto}
use Rattle.std.proofs.lemmas.List.{length-reverse}
use lib.Bits.{xor_comm}
use Rattle.ground.proofs.XorLaws.{xor_assoc}
use Rattle.field.specs.Field.{mul}
use Rattle.locators.specs.Combinations.{combined}

unfoldable pub total : List (ℕ × ℕ) → ℕ
total [] = 0
total (p ∷ ps) = bit_xor (mul p.0 p.1) (total ps)

pub total-push : (ps : List (ℕ × ℕ)) (x y : ℕ) → total (ps ++ ((x, y) ∷ [])) ≡ bit_xor (total ps) (mul x y)
unfolding total
total-push [] x y = xor_comm (mul x y) 0
total-push (p ∷ ps) x y =
    ap (bit_xor (mul p.0 p.1)) (total-push ps x y) ∙ sym (xor_assoc (mul p.0 p.1) (total ps) (mul x y))

-- one more key, where there is a value for it
zip-push : (xs : List ℕ) (x : ℕ) (ys : List ℕ) → length xs < length ys
    → zip (xs ++ (x ∷ [])) ys ≡ zip xs ys ++ ((x, get_or ys (length xs) 0) ∷ [])
zip-push [] x [] h = absurd (omega arith)
zip-push [] x (y ∷ ys) h = refl
zip-push (z ∷ xs) x [] h = absurd (omega arith)
zip-push (z ∷ xs) x (y ∷ ys) h = ap (λ (ps : List (ℕ × ℕ)). (z, y) ∷ ps) (zip-push xs x ys (omega arith))

-- the value beside one more coefficient
value_beside : (s v : List ℕ) (i : ℕ) → get_or (drop i s) (length (reverse v)) 0 ≡ get_or s (i + length v) 0
value_beside s v i =
    get_or-drop i s (length (reverse v)) 0 ∙ ap (λ (k : ℕ). get_or s (i + k) 0) (length-reverse v)

zip-cons : (s v : List ℕ) (i b : ℕ) → i + length v < length s
    → zip (reverse (b ∷ v)) (drop i s) ≡ zip (reverse v) (drop i s) ++ ((b, get_or s (i + length v) 0) ∷ [])
zip-cons s v i b h =
    ap (λ (l : List ℕ). zip l (drop i s)) (reverse_onto v b [])
    ∙ zip-push (reverse v) b (drop i s) (omega (arith, length-reverse v, length-drop i s))
    ∙ ap (λ (y : ℕ). zip (reverse v) (drop i s) ++ ((b, y) ∷ [])) (value_beside s v i)

pub total_zip : (s v : List ℕ) (i : ℕ) → i + length v ≤ length s → total (zip (reverse v) (drop i s)) ≡ combined s v i
unfolding combined total
total_zip s [] i h = refl
total_zip s (b ∷ v) i h =
    let x = get_or s (i + length v) 0 in
    ap total (zip-cons s v i b (omega arith)) ∙ total-push (zip (reverse v) (drop i s)) b x
    ∙ ap (λ (z : ℕ). bit_xor z (mul b x)) (total_zip s v i (omega arith)) ∙ xor_comm (combined s v i) (mul b x)
