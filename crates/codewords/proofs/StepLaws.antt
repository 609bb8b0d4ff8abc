-- The division is linear: what two words do together is the sum of what each does alone. So two bytes are taken at
-- once, and their four half-bytes apart.
--     step_in-xors, rem_of-xors, checks_of-xors    the remainder of a sum
--     two_steps       two bytes: all moves up by two, and the check bytes of what fell out, with the two added, come in
--     zero_first      a zero byte before a word changes nothing
--     rem_of-append    bytes after bytes
-- Assumes nothing.
use mathlib.Core.Path.{◌≡◌, refl, sym, ap, ap₂, subst, ◌∙◌}
use mathlib.Core.List.{List, [], ◌∷◌, ◌++◌, append_assoc}
use Prim.Native.Nat.{ℕ, suc}
use native.Mathlib.Omega.{arith}
use lib.Bits.{bit_xor, xor_self}
use lib.ListN.{length, replicate, length-append}
use Rattle.ground.specs.Sums.{xors}
use Rattle.ground.proofs.XorLaws.{xor_swap}
use Rattle.ground.proofs.SumLaws.{cons, xors_swap, xors-append, xors_self, xors_zeros, zeros-xors}
use Rattle.field.specs.Polynomials.{scaled}
use Rattle.field.proofs.FieldLaws.{mul-xor_l, mul-zero_l}
use Rattle.codewords.specs.CheckBytes.{generator, step_in, rem_of, checks_of}
use Rattle.codewords.proofs.GeneratorLaws.{length-generator}
use Rattle.codewords.proofs.DivisionLaws.{length-step_in, length-rem_of}

scaled-xor : (c d : ℕ) (w : List ℕ) → scaled (bit_xor c d) w ≡ xors (scaled c w) (scaled d w)
unfolding scaled xors
scaled-xor c d [] = refl
scaled-xor c d (x ∷ w) = cons (mul-xor_l c d x) (scaled-xor c d w)

pub step_in-xors : (m n : List ℕ) (x y : ℕ) → length m ≡ length n
    → step_in generator (xors m n) (bit_xor x y) ≡ xors (step_in generator m x) (step_in generator n y)
unfolding step_in xors
step_in-xors [] n x y e = refl
step_in-xors (a ∷ m) [] x y e = absurd (omega arith)
step_in-xors (a ∷ m) (b ∷ n) x y e =
    ap₂ xors (sym (xors-append m (0 ∷ []) n (0 ∷ []) (omega arith)))
    (ap (λ (c : ℕ). scaled c generator) (xor_swap a b x y) ∙ scaled-xor (bit_xor a x) (bit_xor b y) generator)
    ∙ xors_swap (m ++ (0 ∷ [])) (n ++ (0 ∷ [])) (scaled (bit_xor a x) generator) (scaled (bit_xor b y) generator)

pub rem_of-xors : (m n u v : List ℕ) → length m ≡ 32 → length n ≡ 32 → length u ≡ length v
    → rem_of generator (xors m n) (xors u v) ≡ xors (rem_of generator m u) (rem_of generator n v)
unfolding rem_of xors
rem_of-xors m n [] [] em en e = refl
rem_of-xors m n [] (y ∷ v) em en e = absurd (omega arith)
rem_of-xors m n (x ∷ u) [] em en e = absurd (omega arith)
rem_of-xors m n (x ∷ u) (y ∷ v) em en e =
    ap (λ (l : List ℕ). rem_of generator l (xors u v)) (step_in-xors m n x y (em ∙ sym en))
    ∙ rem_of-xors (step_in generator m x) (step_in generator n y) u v (length-step_in m x em) (length-step_in n y en)
    (omega arith)

pub checks_of-xors : (u v : List ℕ) → length u ≡ length v → checks_of (xors u v) ≡ xors (checks_of u) (checks_of v)
unfolding checks_of xors
checks_of-xors u v e = rem_of-xors (replicate 32 0) (replicate 32 0) u v refl refl e

pub rem_of-append : (m u v : List ℕ) → rem_of generator m (u ++ v) ≡ rem_of generator (rem_of generator m u) v
unfolding rem_of
rem_of-append m [] v = refl
rem_of-append m (x ∷ u) v = rem_of-append (step_in generator m x) u v

-- ---- two bytes at once

zeros_to : (n : ℕ) (u : List ℕ) → length u ≡ n → xors (replicate n 0) u ≡ u
zeros_to n u e = subst (λ (k : ℕ). xors (replicate k 0) u ≡ u) e (zeros-xors u)

zeros_of : (n : ℕ) (u : List ℕ) → length u ≡ n → xors u (replicate n 0) ≡ u
zeros_of n u e = subst (λ (k : ℕ). xors u (replicate k 0) ≡ u) e (xors_zeros u)

scaled-zero : (w : List ℕ) → scaled 0 w ≡ replicate (length w) 0
unfolding scaled
scaled-zero [] = refl
scaled-zero (x ∷ w) = cons (mul-zero_l x) (scaled-zero w)

-- a byte that the remainder begins with: nothing comes in
step_self : (a : ℕ) (m : List ℕ) → suc (length m) ≡ 32 → step_in generator (a ∷ m) a ≡ m ++ (0 ∷ [])
unfolding step_in
step_self a m e =
    let long : length (m ++ (0 ∷ [])) ≡ length generator = simp (length-append, length-generator) (omega arith) in
    ap (λ (c : ℕ). xors (m ++ (0 ∷ [])) (scaled c generator)) (xor_self a)
    ∙ ap (xors (m ++ (0 ∷ []))) (scaled-zero generator) ∙ zeros_of (length generator) (m ++ (0 ∷ [])) long

pub zero_first : (w : List ℕ) → checks_of (0 ∷ w) ≡ checks_of w
unfolding checks_of rem_of
zero_first w = ap (λ (m : List ℕ). rem_of generator m w) (step_self 0 (replicate 31 0) refl)

step_self_twice : (a b : ℕ) (m : List ℕ) → length m ≡ 30
    → rem_of generator (a ∷ b ∷ m) (a ∷ b ∷ []) ≡ m ++ (0 ∷ 0 ∷ [])
unfolding rem_of
step_self_twice a b m e =
    ap (λ (l : List ℕ). step_in generator l b) (step_self a (b ∷ m) (omega arith))
    ∙ step_self b (m ++ (0 ∷ [])) (simp length-append (omega arith)) ∙ append_assoc m (0 ∷ []) (0 ∷ [])

-- a remainder of two bytes goes into the word
remainder_in : (a b x y : ℕ)
    → rem_of generator (a ∷ b ∷ replicate 30 0) (x ∷ y ∷ []) ≡ checks_of (bit_xor a x ∷ bit_xor b y ∷ [])
unfolding checks_of xors
remainder_in a b x y =
    let m = a ∷ b ∷ replicate 30 0 in
    sym
    (ap (λ (l : List ℕ). rem_of generator l (bit_xor a x ∷ bit_xor b y ∷ [])) (sym (xors_self m))
    ∙ rem_of-xors m m (a ∷ b ∷ []) (x ∷ y ∷ []) refl refl refl
    ∙ ap (λ (l : List ℕ). xors l (rem_of generator m (x ∷ y ∷ []))) (step_self_twice a b (replicate 30 0) refl)
    ∙ zeros_to 32 (rem_of generator m (x ∷ y ∷ [])) (length-rem_of m (x ∷ y ∷ []) refl))

pub two_steps : (a b x y : ℕ) (m : List ℕ) → length m ≡ 30
    → rem_of generator (a ∷ b ∷ m) (x ∷ y ∷ []) ≡ xors (m ++ (0 ∷ 0 ∷ [])) (checks_of (bit_xor a x ∷ bit_xor b y ∷ []))
unfolding xors
two_steps a b x y m e =
    ap (λ (l : List ℕ). rem_of generator (a ∷ b ∷ l) (x ∷ y ∷ [])) (sym (zeros_of 30 m e))
    ∙ rem_of-xors (0 ∷ 0 ∷ m) (a ∷ b ∷ replicate 30 0) (0 ∷ 0 ∷ []) (x ∷ y ∷ []) (omega arith) refl refl
    ∙ ap₂ xors (step_self_twice 0 0 m e) (remainder_in a b x y)
