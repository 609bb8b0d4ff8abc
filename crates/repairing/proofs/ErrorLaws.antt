-- What a word differs by from the code word that is near, and its byte at one place (specs/Inner).
--     value_added    the value at a power of g, where a byte is added
--     held_added     so the values follow
--     errors         the word and the code word, added: its bytes are 0 where they agree; its length, bytes, values
--     RightOrZero    but for one place, each byte is right or a polynomial is 0 at its locator
--     error_right    a number that a quotient of the locator tells of a place is the byte there
-- Assumes nothing.
use Rattle.std.proofs.Common.{List, ◌⊎◌, ◌≡◌, refl, sym, ap, ap₂, subst, ◌∙◌, ℕ, suc, ◌+◌, ◌-◌, ◌*◌, ◌≤◌, ◌<◌, arith}
use Rattle.std.proofs.Common.{bit_xor, length, get_or}
use lib.Bits.{xor_lt, xor_self, xor_zero_r}
use Rattle.ground.specs.Bytes.{Bytes}
use Rattle.ground.specs.Sums.{xors}
use Rattle.ground.proofs.ByteLaws.{bytes-set}
use Rattle.ground.proofs.SumLaws.{length-xors, bytes-xors, get_or-xors}
use Rattle.ground.proofs.XorLaws.{xor_equal}
use Rattle.field.specs.Field.{mul}
use Rattle.field.specs.Polynomials.{value_at}
use Rattle.field.proofs.FieldLaws.{mul-xor_l, mul-lt}
use Rattle.field.proofs.PrimitiveLaws.{mul_cancel}
use Rattle.field.proofs.StepLaws.{step_to}
use Rattle.field.proofs.PolynomialLaws.{eval_xors}
use Rattle.locators.specs.Combinations.{combined}
use Rattle.locators.proofs.OverLaws.{over-set, value_over}
use Rattle.locators.proofs.CombineLaws.{Values}
use Rattle.locators.proofs.LocatorLaws.{alone_value}
use Rattle.codewords.specs.CodeBlocks.{root}
use Rattle.proposals.specs.Near.{Near}
use Rattle.repairing.specs.Inner.{added, term, Held, Followed, Tells, Word}
use Rattle.repairing.proofs.ValueLaws.{term_positive}

-- ---- a byte added

module _ (w : List ℕ) (j e : ℕ) (bw : Bytes w) (small : e < 256) (here : j < length w) where
  pub bytes_added : Bytes (added w j e)
  bytes_added = bytes-set w j _ bw (xor_lt 8 (get_or w j 0) e (bw j) small)

  value_added : (m : ℕ)
      → value_at (step_to m) (added w j e) ≡ bit_xor (value_at (step_to m) w) (mul e (step_to (m * (length w - suc j))))
  value_added m =
      value_over m (added w j e) bytes_added ∙ over-set (λ p. step_to (m * p)) w j e here
      ∙ ap (λ (x : ℕ). bit_xor x (mul e (step_to (m * (length w - suc j))))) (sym (value_over m w bw))

  followed_value : {s t : List ℕ} {p : ℕ} → length w - suc j ≡ p → Held w s → Followed s p e t
      → (k : ℕ) → k < 32 → get_or t k 0 ≡ value_at (root k) (added w j e)
  unfolding root
  followed_value place held follow k h =
      follow.values k h ∙ ap₂ (λ (x q : ℕ). bit_xor x (mul e (step_to ((112 + k) * q)))) (held.values k h) (sym place)
      ∙ sym (value_added (112 + k))

  pub held_added : {s t : List ℕ} {p : ℕ} → length w - suc j ≡ p → Held w s → Followed s p e t → Held (added w j e) t
  held_added place held follow = record { count = follow.count; values = followed_value place held follow }

-- ---- the errors

module _ {u w s : List ℕ} (word : Word u w s) (c : List ℕ) (near : Near 16 u c) where
  abbrev pub errors : List ℕ
  errors = xors w c

  same : length w ≡ length c
  same = word.count ∙ sym near.count

  pub errors_count : length errors ≡ length u
  errors_count = length-xors w c same ∙ word.count

  pub errors_bytes : Bytes errors
  errors_bytes = bytes-xors w c word.bytes near.bytes

  pub error_at : (i : ℕ) → get_or errors i 0 ≡ bit_xor (get_or w i 0) (get_or c i 0)
  error_at i = get_or-xors w c i same

  pub errors_values : Values 112 errors s
  unfolding root
  errors_values k h =
      word.held.values k h ∙ sym (xor_zero_r (value_at (root k) w))
      ∙ ap (bit_xor (value_at (root k) w)) (sym (near.code_word k h)) ∙ sym (eval_xors (root k) 0 0 w c same)

  -- but for place j, the word is right or the polynomial is 0
  abbrev pub RightOrZero : List ℕ → ℕ → Type 0
  RightOrZero q j =
      (i : ℕ) → i < length u → (i ≡ j → ⊥) → (get_or errors i 0 ≡ 0) ⊎ (value_at (step_to (length u - suc i)) q ≡ 0)

  -- the byte of one place, from a polynomial that is 0 at the locators of all others
  module _ (q : List ℕ) (bq : Bytes q) (j p : ℕ) (here : j < length u) (place : length u - suc j ≡ p)
      (short : length q ≤ 32) (others : RightOrZero q j) where
    told : combined s q 0 ≡ mul (get_or errors j 0) (term (value_at (step_to p) q) p 0)
    told =
        subst (λ (n : ℕ). combined s q 0 ≡ mul (get_or errors j 0) (term (value_at (step_to n) q) n 0))
        (ap (λ (n : ℕ). n - suc j) errors_count ∙ place)
        (alone_value 112 errors s errors_bytes errors_values q bq j (omega (arith, errors_count)) short
        (λ i h no. subst (λ (n : ℕ). (get_or errors i 0 ≡ 0) ⊎ (value_at (step_to (n - suc i)) q ≡ 0))
        (sym errors_count)
        (others i (omega (arith, errors_count)) no)))

    products_same : (y e : ℕ) → y ≡ value_at (step_to p) q → Tells s q y p e
        → mul e (term y p 0) ≡ mul (get_or errors j 0) (term y p 0)
    products_same y e is tells = tells.is ∙ told ∙ ap (λ (z : ℕ). mul (get_or errors j 0) (term z p 0)) (sym is)

    pub error_right : (y e : ℕ) → 0 < y → y < 256 → y ≡ value_at (step_to p) q → Tells s q y p e → e ≡ get_or errors j 0
    error_right y e pos small is tells =
        let x = get_or errors j 0 in
        let t = term y p 0 in
        let same = ap (bit_xor (mul e t)) (sym (products_same y e is tells)) ∙ xor_self (mul e t) in
        xor_equal e x
        (mul_cancel (bit_xor e x) t (xor_lt 8 e x tells.byte (errors_bytes j)) (mul-lt y _ small)
        (term_positive y _ pos small refl) (mul-xor_l e x t ∙ same))
