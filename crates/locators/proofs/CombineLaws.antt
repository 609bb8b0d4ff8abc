-- Values of a word, combined by a polynomial (specs/Combinations): they are the values of another word, in which each
-- byte is multiplied by the polynomial's value at the byte's locator.
--     combined-xors, combined_scaled    a sum of polynomials, a polynomial times an element
--     combined_zeros                    zeros in front change nothing
--     combined_up                       times x: the values from the next one on
--     Values m e s                      s are the 32 values of e from g^m on
--     combined_over                     what is combined is a sum over the bytes
--     weighed                           that other word; its length, bytes, weight and values
-- Assumes nothing.
use Rattle.std.proofs.Common.{◌≡◌, refl, sym, ap, ap₂, ◌∙◌, List, [], ◌∷◌, ◌++◌, ℕ, zero, suc, ◌+◌, ◌-◌, ◌*◌, ◌<◌, ◌≤◌}
use Rattle.std.proofs.Common.{add-mul, mul_comm, arith, bit_xor, length, get_or, replicate, length-append}
use Rattle.ground.specs.Bytes.{Bytes}
use Rattle.ground.specs.Sums.{xors}
use Rattle.ground.proofs.ByteLaws.{bytes-nil, bytes-cons}
use Rattle.ground.proofs.SumLaws.{length-xors}
use Rattle.ground.proofs.XorLaws.{xor_swap}
use Rattle.field.specs.Field.{mul}
use Rattle.field.specs.Polynomials.{eval_from, value_at, scaled}
use Rattle.field.proofs.FieldLaws as field
use Rattle.field.proofs.PowerLaws.{alpha_to-lt}
use Rattle.field.proofs.StepLaws.{step_to, step_to-add}
use Rattle.field.proofs.PolynomialLaws.{value_cons, length_scaled}
use Rattle.field.proofs.DampLaws.{weight, weight_one}
use Rattle.locators.specs.Combinations.{combined}
use Rattle.locators.proofs.OverLaws.{over, over_same, over_sum, over_times, over-lt, over_none, eval_first, value_over}

-- ---- polynomials added, scaled, moved

module _ (s : List ℕ) (i : ℕ) where
  -- two polynomials, of which the sum combines to the sum
  abbrev Adds : List ℕ → List ℕ → Type 0
  Adds u v = combined s (xors u v) i ≡ bit_xor (combined s u i) (combined s v i)

  adds_first : (x y : ℕ) (u v : List ℕ) → length u ≡ length v → Adds u v → Adds (x ∷ u) (y ∷ v)
  unfolding combined xors
  adds_first x y u v same rest =
      let a = get_or s (i + length u) 0 in
      ap₂ (λ (n t : ℕ). bit_xor (mul (bit_xor x y) (get_or s (i + n) 0)) t) (length-xors u v same) rest
      ∙ ap (λ (t : ℕ). bit_xor t (bit_xor (combined s u i) (combined s v i)))
      (field.mul-xor_l x y a ∙ ap (λ (n : ℕ). bit_xor (mul x a) (mul y (get_or s (i + n) 0))) same)
      ∙ xor_swap (mul x a) (mul y (get_or s (i + length v) 0)) (combined s u i) (combined s v i)

pub combined-xors : (s u v : List ℕ) (i : ℕ) → length u ≡ length v
    → combined s (xors u v) i ≡ bit_xor (combined s u i) (combined s v i)
unfolding combined xors
combined-xors s [] [] i e = refl
combined-xors s [] (y ∷ v) i e = absurd (omega arith)
combined-xors s (x ∷ u) [] i e = absurd (omega arith)
combined-xors s (x ∷ u) (y ∷ v) i e =
    let same : length u ≡ length v = omega arith in
    adds_first s i x y u v same (combined-xors s u v i same)

scaled_first : (c x a f : ℕ) → c < 256 → x < 256 → bit_xor (mul (mul c x) a) (mul c f) ≡ mul c (bit_xor (mul x a) f)
scaled_first c x a f hc hx =
    ap (λ (t : ℕ). bit_xor t (mul c f)) (field.mul_assoc c x a hc hx) ∙ sym (field.mul-xor_r c (mul x a) f)

pub combined_scaled : (s : List ℕ) (c : ℕ) (v : List ℕ) (i : ℕ) → c < 256 → Bytes v
    → combined s (scaled c v) i ≡ mul c (combined s v i)
unfolding combined scaled
combined_scaled s c [] i h b = sym (field.mul-zero_r c)
combined_scaled s c (x ∷ v) i h b =
    ap₂ (λ (n t : ℕ). bit_xor (mul (mul c x) (get_or s (i + n) 0)) t) (length_scaled c v)
    (combined_scaled s c v i h (λ j. b (suc j)))
    ∙ scaled_first c x (get_or s (i + length v) 0) (combined s v i) h (b 0)

pub combined_zeros : (s : List ℕ) (n : ℕ) (v : List ℕ) (i : ℕ) → combined s (replicate n 0 ++ v) i ≡ combined s v i
unfolding combined
combined_zeros s zero v i = refl
combined_zeros s (suc n) v i =
    ap (λ (t : ℕ). bit_xor t (combined s (replicate n 0 ++ v) i)) (field.mul-zero_l _) ∙ combined_zeros s n v i

pub combined_up : (s v : List ℕ) (i : ℕ) → combined s (v ++ (0 ∷ [])) i ≡ combined s v (suc i)
unfolding combined
combined_up s [] i = ap (λ (t : ℕ). bit_xor t 0) (field.mul-zero_l _)
combined_up s (x ∷ v) i =
    let e : i + length (v ++ (0 ∷ [])) ≡ suc i + length v = omega (arith, length-append v (0 ∷ [])) in
    ap₂ (λ (k t : ℕ). bit_xor (mul x (get_or s k 0)) t) e (combined_up s v i)

-- ---- values of a word

abbrev pub Values : ℕ → List ℕ → List ℕ → Type 0
Values m e s = (k : ℕ) → k < 32 → get_or s k 0 ≡ value_at (step_to (m + k)) e

exponents : (l m p : ℕ) → p * l + m * p ≡ (m + l) * p
exponents l m p =
    ap (λ (n : ℕ). n + m * p) (mul_comm p l) ∙ sym (add-mul l m p) ∙ ap (λ (n : ℕ). n * p) (omega arith)

-- one power of g, from two
two_powers : (a l m p : ℕ) → a < 256
    → mul (mul a (step_to (p * l))) (step_to (m * p)) ≡ mul (step_to ((m + l) * p)) a
two_powers a l m p h =
    field.mul_assoc a (step_to (p * l)) (step_to (m * p)) h (alpha_to-lt _)
    ∙ ap (mul a) (step_to-add (p * l) (m * p) ∙ ap step_to (exponents l m p))
    ∙ field.mul_comm a (step_to ((m + l) * p)) h (alpha_to-lt _)

module _ (m : ℕ) (e s : List ℕ) (be : Bytes e) (values : Values m e s) where
  -- what a byte at place p counts
  abbrev pub share : List ℕ → ℕ → ℕ → ℕ
  share v i p = mul (value_at (step_to p) v) (step_to ((m + i) * p))

  share_first : (x : ℕ) (v : List ℕ) (i p : ℕ) → x < 256 → Bytes v
      → bit_xor (mul (step_to ((m + (i + length v)) * p)) x) (share v i p) ≡ share (x ∷ v) i p
  share_first x v i p h b =
      let n : m + (i + length v) ≡ m + i + length v = omega arith in
      ap (λ (y : ℕ). bit_xor y (share v i p))
      (ap (λ (k : ℕ). mul (step_to (k * p)) x) n ∙ sym (two_powers x (length v) (m + i) p h))
      ∙ sym (field.mul-xor_l (mul x (step_to (p * length v))) (value_at (step_to p) v) (step_to ((m + i) * p)))
      ∙ ap (λ (y : ℕ). mul y (step_to ((m + i) * p))) (sym (eval_first p x v h b) ∙ sym (value_cons (step_to p) x v))

  none_over : (i : ℕ) → 0 ≡ over (share [] i) e
  unfolding eval_from
  none_over i =
      sym (over_none (share [] i) e
      (λ j l. ap (mul (get_or e j 0)) (field.mul-zero_l _) ∙ field.mul-zero_r (get_or e j 0)))

  coefficient_over : (x k : ℕ) → x < 256 → k < 32
      → mul x (get_or s k 0) ≡ over (λ p. mul (step_to ((m + k) * p)) x) e
  coefficient_over x k h low =
      let power : ℕ → ℕ = λ p. step_to ((m + k) * p) in
      ap (mul x) (values k low ∙ value_over (m + k) e be) ∙ field.mul_comm x (over power e) h (over-lt power e be)
      ∙ sym (over_times power x e be (λ p. alpha_to-lt _))

  pub combined_over : (v : List ℕ) (i : ℕ) → i + length v ≤ 32 → Bytes v → combined s v i ≡ over (share v i) e
  unfolding combined
  combined_over [] i h b = none_over i
  combined_over (x ∷ v) i h b =
      let rest : Bytes v = λ j. b (suc j) in
      ap₂ bit_xor (coefficient_over x (i + length v) (b 0) (omega arith)) (combined_over v i (omega arith) rest)
      ∙ sym (over_sum (λ p. mul (step_to ((m + (i + length v)) * p)) x) (share v i) e)
      ∙ over_same _ (share (x ∷ v) i) e (λ p l. share_first x v i p (b 0) rest)

-- ---- the other word

unfoldable pub weighed : (ℕ → ℕ) → List ℕ → List ℕ
weighed f [] = []
weighed f (x ∷ w) = mul x (f (length w)) ∷ weighed f w

pub length-weighed : (f : ℕ → ℕ) (w : List ℕ) → length (weighed f w) ≡ length w
unfolding weighed
length-weighed f [] = refl
length-weighed f (x ∷ w) = ap suc (length-weighed f w)

pub bytes-weighed : (f : ℕ → ℕ) (w : List ℕ) → Bytes w → Bytes (weighed f w)
unfolding weighed
bytes-weighed f [] b = bytes-nil
bytes-weighed f (x ∷ w) b =
    bytes-cons _ (weighed f w) (field.mul-lt x _ (b 0)) (bytes-weighed f w (λ j. b (suc j)))

pub weighed_at : (f : ℕ → ℕ) (w : List ℕ) (i : ℕ) → i < length w
    → get_or (weighed f w) i 0 ≡ mul (get_or w i 0) (f (length w - suc i))
unfolding weighed
weighed_at f [] i h = absurd (omega arith)
weighed_at f (x ∷ w) zero h = let e : length w ≡ suc (length w) - 1 = omega arith in ap (λ (p : ℕ). mul x (f p)) e
weighed_at f (x ∷ w) (suc i) h =
    let e : length w - suc i ≡ suc (length w) - suc (suc i) = omega arith in
    weighed_at f w i (omega arith) ∙ ap (λ (p : ℕ). mul (get_or w i 0) (f p)) e

pub weighed_weight : (f : ℕ → ℕ) (w : List ℕ) → weight (weighed f w) ≤ weight w
unfolding weighed weight
weighed_weight f [] = omega arith
weighed_weight f (zero ∷ w) =
    omega (arith, ap (λ (x : ℕ). weight (x ∷ weighed f w)) (field.mul-zero_l (f (length w))), weighed_weight f w)
weighed_weight f (suc x ∷ w) =
    omega (arith, weight_one (mul (suc x) (f (length w))) (weighed f w), weighed_weight f w)

pub over-weighed : (f h : ℕ → ℕ) (w : List ℕ) → Bytes w → ((p : ℕ) → f p < 256)
    → over h (weighed f w) ≡ over (λ p. mul (f p) (h p)) w
unfolding weighed over
over-weighed f h [] b small = refl
over-weighed f h (x ∷ w) b small =
    let n = length w in
    ap₂ bit_xor (ap (mul (mul x (f n))) (ap h (length-weighed f w)) ∙ field.mul_assoc x (f n) (h n) (b 0) (small n))
    (over-weighed f h w (λ j. b (suc j)) small)
