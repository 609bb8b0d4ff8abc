-- A word and its check bytes are 0 at each root of the generator: of the division nothing else is ever looked at.
--     bytes-step_in, length-step_in     a remainder has 32 bytes, and has them after each step
--     step_root                       the bytes so far and the remainder behind them stay 0 where the generator is 0
--     length-checks_of, bytes-checks_of    32 bytes
--     checks_code                     a word with its check bytes is 0 at each root
-- Assumes nothing.
use mathlib.Core.Path.{◌≡◌, refl, sym, ap, ap₂, ◌∙◌}
use mathlib.Core.List.{List, [], ◌∷◌, ◌++◌}
use Prim.Native.Nat.{ℕ, zero, suc, ◌<◌}
use native.Mathlib.Omega.{arith}
use lib.Bits.{bit_xor, xor_lt, xor_zero_r}
use lib.ListN.{length, replicate, length-append}
use Rattle.ground.specs.Bytes.{Bytes}
use Rattle.ground.specs.Sums.{xors}
use Rattle.ground.proofs.ByteLaws.{bytes-nil, bytes-cons, bytes-append}
use Rattle.ground.proofs.XorLaws.{xor_cancel}
use Rattle.ground.proofs.SumLaws.{length-xors, bytes-xors}
use Rattle.field.specs.Field.{mul}
use Rattle.field.specs.Polynomials.{eval_from, value_at, scaled}
use Rattle.field.proofs.FieldLaws.{mul_one, mul-zero_l, mul-zero_r}
use Rattle.field.proofs.PolynomialLaws.{eval_append, eval_xors, zeros_front, length_scaled, bytes_scaled, value_scaled}
use Rattle.codewords.specs.CodeBlocks.{root, CodeBlock}
use Rattle.codewords.specs.CheckBytes.{generator, step_in, rem_of, checks_of}
use Rattle.codewords.proofs.GeneratorLaws.{generator_root, generator_bytes, length-generator}

-- ---- a remainder has 32 bytes

-- the two that a step adds are of one length
even : (c : ℕ) (m : List ℕ) → suc (length m) ≡ 32 → length (m ++ (0 ∷ [])) ≡ length (scaled c generator)
even c m e = simp (length-append, length_scaled, length-generator) (omega arith)

pub length-step_in : (m : List ℕ) (x : ℕ) → length m ≡ 32 → length (step_in generator m x) ≡ 32
unfolding step_in
length-step_in [] x e = e
length-step_in (a ∷ m) x e =
    length-xors (m ++ (0 ∷ [])) (scaled (bit_xor a x) generator) (even (bit_xor a x) m e)
    ∙ even (bit_xor a x) m e ∙ length_scaled (bit_xor a x) generator ∙ length-generator

pub bytes-step_in : (m : List ℕ) (x : ℕ) → Bytes m → x < 256 → Bytes (step_in generator m x)
unfolding step_in
bytes-step_in [] x b h = bytes-nil
bytes-step_in (a ∷ m) x b h =
    bytes-xors (m ++ (0 ∷ [])) (scaled (bit_xor a x) generator)
    (bytes-append m (0 ∷ []) (λ j. b (suc j)) (bytes-cons 0 [] (omega arith) bytes-nil))
    (bytes_scaled (bit_xor a x) generator (xor_lt 8 a x (b 0) h))

pub length-rem_of : (m w : List ℕ) → length m ≡ 32 → length (rem_of generator m w) ≡ 32
unfolding rem_of
length-rem_of m [] e = e
length-rem_of m (x ∷ w) e = length-rem_of (step_in generator m x) w (length-step_in m x e)

bytes-rem_of : (m w : List ℕ) → Bytes m → Bytes w → Bytes (rem_of generator m w)
unfolding rem_of
bytes-rem_of m [] b bw = b
bytes-rem_of m (x ∷ w) b bw = bytes-rem_of (step_in generator m x) w (bytes-step_in m x b (bw 0)) (λ j. bw (suc j))

bytes_zeros : (n : ℕ) → Bytes (replicate n 0)
bytes_zeros zero = bytes-nil
bytes_zeros (suc n) = bytes-cons 0 (replicate n 0) (omega arith) (bytes_zeros n)

pub length-checks_of : (w : List ℕ) → length (checks_of w) ≡ 32
unfolding checks_of
length-checks_of w = length-rem_of (replicate 32 0) w refl

pub bytes-checks_of : (w : List ℕ) → Bytes w → Bytes (checks_of w)
unfolding checks_of
bytes-checks_of w b = bytes-rem_of (replicate 32 0) w (bytes_zeros 32) b

-- ---- values

-- a step adds a multiple of the whole generator: its 1 is what turns the remainder's first byte into x
step_sum : (a x : ℕ) (m : List ℕ)
    → x ∷ step_in generator (a ∷ m) x ≡ xors ((a ∷ m) ++ (0 ∷ [])) (scaled (bit_xor a x) (1 ∷ generator))
unfolding step_in xors scaled
step_sum a x m =
    ap (λ (y : ℕ). y ∷ step_in generator (a ∷ m) x) (sym (ap (bit_xor a) (mul_one (bit_xor a x)) ∙ xor_cancel a x))

module _ (k : ℕ) (h : k < 32) where
  abbrev r : ℕ
  r = root k

  multiple_root : (c : ℕ) → c < 256 → value_at r (scaled c (1 ∷ generator)) ≡ 0
  multiple_root c hc =
      value_scaled r c (1 ∷ generator) hc generator_bytes ∙ ap (mul c) (generator_root k h) ∙ mul-zero_r c

  raised_root : (v : ℕ) (m : List ℕ) → eval_from r v m ≡ 0 → eval_from r v (m ++ (0 ∷ [])) ≡ 0
  unfolding eval_from
  raised_root v m z =
      eval_append r v m (0 ∷ []) ∙ ap (λ (s : ℕ). bit_xor (mul s r) 0) z ∙ ap (λ (s : ℕ). bit_xor s 0) (mul-zero_l r)

  pub step_root : (v a x : ℕ) (m : List ℕ) → a < 256 → x < 256 → suc (length m) ≡ 32
      → eval_from r v (a ∷ m) ≡ 0 → eval_from r v (x ∷ step_in generator (a ∷ m) x) ≡ 0
  step_root v a x m ha hx e z =
      let c = bit_xor a x in
      let same : length ((a ∷ m) ++ (0 ∷ [])) ≡ length (scaled c (1 ∷ generator)) =
      simp (length-append, length_scaled, length-generator) (omega arith) in
      ap (eval_from r v) (step_sum a x m)
      ∙ ap (λ (s : ℕ). eval_from r s (xors ((a ∷ m) ++ (0 ∷ [])) (scaled c (1 ∷ generator)))) (sym (xor_zero_r v))
      ∙ eval_xors r v 0 ((a ∷ m) ++ (0 ∷ [])) (scaled c (1 ∷ generator)) same
      ∙ ap₂ bit_xor (raised_root v (a ∷ m) z) (multiple_root c (xor_lt 8 a x ha hx))

  rem_root : (v : ℕ) (m w : List ℕ) → length m ≡ 32 → Bytes m → Bytes w
      → eval_from r v m ≡ 0 → eval_from r v (w ++ rem_of generator m w) ≡ 0
  unfolding rem_of eval_from
  rem_root v m [] e b bw z = z
  rem_root v [] (x ∷ w) e b bw z = absurd (omega arith)
  rem_root v (a ∷ m) (x ∷ w) e b bw z =
      rem_root (bit_xor (mul v r) x) (step_in generator (a ∷ m) x) w (length-step_in (a ∷ m) x e)
      (bytes-step_in (a ∷ m) x b (bw 0)) (λ j. bw (suc j)) (step_root v a x m (b 0) (bw 0) e z)

pub checks_code : (w : List ℕ) → Bytes w → CodeBlock (w ++ checks_of w)
unfolding checks_of eval_from
checks_code w b k h = rem_root k h 0 (replicate 32 0) w refl (bytes_zeros 32) b (zeros_front (root k) 32 [])
