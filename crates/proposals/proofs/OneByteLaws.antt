-- One wrong byte, and what the values of a word at the roots tell of it. A code word's values are all 0, so those of a
-- word that differs from it in one byte are that byte's alone: e times root^p, where e is the sum of the right and the
-- wrong byte and p counts the bytes behind it.
--     remainder_value    the value at a root is that of 32 bytes: the check bytes that stand there plus the right ones
--     Differ w c         w and c are one but for a byte: x stands there in w, y in c, and `behind` follows
--     differ_one         two words of one length that differ at one place or none are one, or differ so
--     one_value          the value of w at a root, where c is a code word
--     mended             c is w with the error added at its place
-- Assumes nothing.
use mathlib.Core.List.{List, [], ◌∷◌, ◌++◌}
use mathlib.Core.Logic.{◌⊎◌, inl, inr, ⊎_elim}
use mathlib.Core.Path.{◌≡◌, refl, sym, ap, ap₂, subst, ◌∙◌}
use Prim.Native.Nat.{ℕ, zero, suc, ◌+◌, ◌*◌, ◌≤◌, ◌<◌}
use native.Mathlib.Nat.{mul-zero, pos_of_ne-zero}
use native.Mathlib.Omega.{arith}
use borrow.Author.Tests.{eqb-true, eqb-false}
use lib.Bits.{bit_xor, xor_lt, xor_self, xor_zero_r}
use lib.Dec.{eqb}
use lib.ListN.{length, get_or, set, replicate, length-append}
use lib.Seq.{get_or-append_seam, set-append_seam}
use Rattle.ground.specs.Apart.{apart}
use Rattle.ground.specs.Bytes.{Bytes}
use Rattle.ground.specs.Sums.{xors}
use Rattle.ground.proofs.ApartLaws.{apart-zero, same_first, other_first}
use Rattle.ground.proofs.CaseLaws.{by_test}
use Rattle.ground.proofs.SumLaws.{cons, xors_self}
use Rattle.ground.proofs.XorLaws.{xor_cancel, xor_equal}
use Rattle.field.specs.Field.{mul, alpha_to}
use Rattle.field.specs.Polynomials.{eval_from, value_at}
use Rattle.field.proofs.FieldLaws.{mul_one, mul_assoc, mul-lt}
use Rattle.field.proofs.PowerLaws.{alpha_to-lt, alpha_to-add}
use Rattle.field.proofs.PolynomialLaws.{eval_append, eval_xors, value_cons}
use Rattle.codewords.specs.CodeBlocks.{root, CodeBlock}
use Rattle.codewords.specs.CheckBytes.{checks_of}
use Rattle.codewords.proofs.DivisionLaws.{length-checks_of, checks_code}

-- ---- the value at a root, from 32 bytes

-- words that begin alike: the sum of their values is the value of the sum of what they end with
ends_sum : (r : ℕ) (w c d : List ℕ) → length c ≡ length d
    → bit_xor (value_at r (w ++ c)) (value_at r (w ++ d)) ≡ value_at r (xors c d)
ends_sum r w c d e =
    let v = value_at r w in
    ap₂ bit_xor (eval_append r 0 w c) (eval_append r 0 w d) ∙ sym (eval_xors r v v c d e)
    ∙ ap (λ (a : ℕ). eval_from r a (xors c d)) (xor_self v)

pub remainder_value : (k : ℕ) → k < 32 → (w c : List ℕ) → Bytes w → length c ≡ 32
    → value_at (root k) (w ++ c) ≡ value_at (root k) (xors c (checks_of w))
remainder_value k h w c b e =
    let r = root k in
    sym (xor_zero_r (value_at r (w ++ c))) ∙ ap (bit_xor (value_at r (w ++ c))) (sym (checks_code w b k h))
    ∙ ends_sum r w c (checks_of w) (e ∙ sym (length-checks_of w))

-- ---- words that differ at one place

pub record Differ (w c : List ℕ) : Type 0 where
  pub front : List ℕ
  pub x : ℕ
  pub y : ℕ
  pub behind : List ℕ
  pub wrong : w ≡ front ++ (x ∷ behind)
  pub right : c ≡ front ++ (y ∷ behind)
  pub other : x ≡ y → ⊥

differ_later : (a b : ℕ) {w c : List ℕ} → a ≡ b → Differ w c → Differ (a ∷ w) (b ∷ c)
differ_later a b same d =
    record {
      front = a ∷ d.front;
      x = d.x;
      y = d.y;
      behind = d.behind;
      wrong = cons refl d.wrong;
      right = cons (sym same) d.right;
      other = d.other;
    }

differ_here : (a b : ℕ) {w c : List ℕ} → (a ≡ b → ⊥) → w ≡ c → Differ (a ∷ w) (b ∷ c)
differ_here a b {w} {c} other same =
    record {
      front = [];
      x = a;
      y = b;
      behind = w;
      wrong = refl;
      right = cons refl (sym same);
      other = other;
    }

pub differ_one : (w c : List ℕ) → length w ≡ length c → apart w c ≤ 1 → (w ≡ c) ⊎ Differ w c
differ_one [] [] e few = inl refl
differ_one [] (b ∷ c) e few = absurd (omega arith)
differ_one (a ∷ w) [] e few = absurd (omega arith)
differ_one (a ∷ w) (b ∷ c) e few =
    by_test (eqb a b)
    (λ t. let same = eqb-true a b t in
    ⊎_elim (λ rest. inl (cons same rest)) (λ d. inr (differ_later a b same d))
    (differ_one w c (omega arith) (omega (arith, same_first a b w c same))))
    (λ t. let other = eqb-false a b t in
    inr (differ_here a b other (apart-zero w c (omega arith) (omega (arith, other_first a b w c other)))))

-- ---- the value of a word with one wrong byte

-- a coefficient with p zeros behind it
eval_zeros : (n a p : ℕ) → a < 256 → eval_from (alpha_to n) a (replicate p 0) ≡ mul a (alpha_to (n * p))
unfolding eval_from alpha_to
eval_zeros n a zero h = sym (ap (λ (m : ℕ). mul a (alpha_to m)) (mul-zero n) ∙ mul_one a)
eval_zeros n a (suc p) h =
    let r = alpha_to n in
    let e : n + n * p ≡ n * suc p = omega arith in
    ap (λ (s : ℕ). eval_from r s (replicate p 0)) (xor_zero_r (mul a r))
    ∙ eval_zeros n (mul a r) p (mul-lt a r h) ∙ mul_assoc a r (alpha_to (n * p)) h (alpha_to-lt n)
    ∙ ap (mul a) (alpha_to-add n (n * p) ∙ ap alpha_to e)

-- the same byte before and after in both words: only the sum of the two that differ is left
one_sum : (r x y : ℕ) (u v : List ℕ)
    → bit_xor (value_at r (u ++ (x ∷ v))) (value_at r (u ++ (y ∷ v)))
    ≡ eval_from r (bit_xor x y) (replicate (length v) 0)
unfolding xors
one_sum r x y u v =
    ends_sum r u (x ∷ v) (y ∷ v) refl ∙ value_cons r (bit_xor x y) (xors v v)
    ∙ ap (eval_from r (bit_xor x y)) (xors_self v)

module _ {w c : List ℕ} (d : Differ w c) (bw : Bytes w) (bc : Bytes c) (code : CodeBlock c) where
  -- the sum of the wrong byte and the right one
  abbrev pub error : ℕ
  error = bit_xor d.x d.y

  -- how many bytes follow it
  abbrev pub place : ℕ
  place = length d.behind

  x_lt : d.x < 256
  x_lt = rw (get_or-append_seam d.front d.x d.behind 0) at (subst Bytes d.wrong bw (length d.front))

  y-lt : d.y < 256
  y-lt = rw (get_or-append_seam d.front d.y d.behind 0) at (subst Bytes d.right bc (length d.front))

  pub error-lt : error < 256
  error-lt = xor_lt 8 d.x d.y x_lt y-lt

  pub error_positive : 0 < error
  error_positive = pos_of_ne-zero (λ z. d.other (xor_equal d.x d.y z))

  pub one_value : (k : ℕ) → k < 32 → value_at (root k) w ≡ mul error (alpha_to (11 * (112 + k) * place))
  unfolding root
  one_value k h =
      let r = root k in
      sym (xor_zero_r (value_at r w)) ∙ ap (bit_xor (value_at r w)) (sym (code k h))
      ∙ ap₂ (λ (a b : List ℕ). bit_xor (value_at r a) (value_at r b)) d.wrong d.right
      ∙ one_sum r d.x d.y d.front d.behind ∙ eval_zeros (11 * (112 + k)) error place error-lt

  pub mended : set w (length d.front) (bit_xor (get_or w (length d.front) 0) error) ≡ c
  mended =
      let i = length d.front in
      ap (λ (s : List ℕ). set s i (bit_xor (get_or s i 0) error)) d.wrong
      ∙ ap (λ (b : ℕ). set (d.front ++ (d.x ∷ d.behind)) i (bit_xor b error))
      (get_or-append_seam d.front d.x d.behind 0)
      ∙ ap (set (d.front ++ (d.x ∷ d.behind)) i) (xor_cancel d.x d.y)
      ∙ set-append_seam d.front d.x d.behind d.y ∙ sym d.right

  pub front_place : length w ≡ length d.front + suc place
  front_place = ap length d.wrong ∙ length-append d.front (d.x ∷ d.behind)
