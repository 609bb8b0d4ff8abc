-- The scan (specs/Inner): how its state goes on and what it ends with.
--     at            the value of the locator at a place
--     word_of, going_of   a word and a state, from what makes them up
--     going_skip    the locator is not 0 at the place: the byte is right
--     going_again   it is, and its quotient still is
--     going_on      it is, and its quotient is not: the byte is mended
--     going_end     no place is left, or the locator is a constant
-- Assumes nothing.
use Rattle.std.proofs.Common.{List, [], ◌∷◌, ◌++◌, ◌⊎◌, inl, inr, ⊎_elim, ◌≡◌, sym, ap, ap₂, subst, ◌∙◌, ℕ, suc, ◌+◌}
use Rattle.std.proofs.Common.{◌-◌, ◌≤◌, ◌<◌, arith, eqb-true, ltb-true, ltb-false, bit_xor, eqb, ltb, length, get_or}
use Rattle.std.proofs.Common.{take, drop, length-set, length-append, length-drop, take-suc, take_at, length-take-le}
use Rattle.std.proofs.Common.{get_or-take, get_or-set_same, get_or-set_other, ext_get_or}
use borrow.Author.Tests.{eqb-false}
use lib.Bits.{xor_self}
use lib.ListN.{get_or-append}
use Rattle.ground.specs.Apart.{apart}
use Rattle.ground.specs.Bytes.{Bytes}
use Rattle.ground.proofs.ApartLaws.{apart_comm, apart-set, apart_through}
use Rattle.ground.proofs.ByteLaws.{bytes-append, bytes_take, bytes_drop}
use Rattle.ground.proofs.CaseLaws.{by_test}
use Rattle.ground.proofs.XorLaws.{xor_cancel}
use Rattle.field.specs.Polynomials.{eval_from, value_at}
use Rattle.field.proofs.FieldLaws.{mul-zero_l}
use Rattle.field.proofs.PowerLaws.{alpha_to-lt}
use Rattle.field.proofs.StepLaws.{step_to, steps_differ}
use Rattle.locators.specs.Inner.{quotient}
use Rattle.locators.proofs.QuotientLaws.{length-partials, bytes-partials, quotient_first, quotient-zero}
use Rattle.proposals.specs.Near.{Near}
use Rattle.repairing.specs.Inner.{added, Held, Followed, Tells, Word, Coefficients, Settled, Going, Ended}
use Rattle.repairing.proofs.ErrorLaws.{bytes_added, held_added, errors, error_at, error_right}

-- the value of the locator at a place
abbrev pub at : List ℕ → ℕ → ℕ → ℕ
at v d p = value_at (step_to p) (take (suc d) v)

-- ---- a word and a state, from what makes them up

pub word_of : {u w s : List ℕ} → 0 < length u → length u ≤ 255 → length w ≡ length u → Bytes w
    → get_or w 0 0 ≡ get_or u 0 0 → Held w s → Word u w s
word_of some most count bytes first held =
    record { some = some; most = most; count = count; bytes = bytes; first = first; held = held }

pub going_of : {u w s v : List ℕ} {d p : ℕ} → Word u w s → apart u w + d ≤ 16 → Coefficients v d → p < length u
    → Settled u w v d p → Going u w s v d p
going_of word few coefficients place settled =
    record { word = word; few = few; coefficients = coefficients; place = place; settled = settled }

-- ---- a place without a wrong byte

module _ {u w s v : List ℕ} {d p : ℕ} (g : Going u w s v d p) where
  next_left : (at v d p ≡ 0 → ⊥) → (i : ℕ) → i < length u → (i + p < length u) × (at v d (length u - suc i) ≡ 0)
      → i + (p + 1) < length u
  next_left nonzero i here left =
      by_test (ltb (i + (p + 1)) (length u)) (ltb-true (i + (p + 1)) (length u))
      (λ t. let e : length u - suc i ≡ p = omega (arith, left.0, ltb-false (i + (p + 1)) (length u) t) in
      absurd (nonzero (ap (at v d) (sym e) ∙ left.1)))

  settled_skip : (at v d p ≡ 0 → ⊥) → Settled u w v d (p + 1)
  settled_skip nonzero c near i here =
      ⊎_elim inl (λ left. inr (next_left nonzero i here left, left.1)) (g.settled c near i here)

  pub going_skip : p + 1 < length u → (at v d p ≡ 0 → ⊥) → Going u w s v d (p + 1)
  going_skip more nonzero = going_of g.word g.few g.coefficients more (settled_skip nonzero)

-- ---- the locator divided

module _ {v : List ℕ} {d : ℕ} (k : Coefficients v d) (some : 0 < d) (r : ℕ) {v' : List ℕ}
    (made : v' ≡ quotient r (take d v) ++ drop d v) where
  count : length (quotient r (take d v)) ≡ d
  count = length-partials r 0 (take d v) ∙ length-take-le d v (omega (arith, k.room))

  pub quotient_bytes : Bytes (quotient r (take d v))
  quotient_bytes = bytes-partials r 0 (take d v) (omega arith) (bytes_take d v k.bytes)

  pub divided_front : take (suc (d - 1)) v' ≡ quotient r (take d v)
  divided_front =
      let e : suc (d - 1) ≡ d = omega arith in
      ap₂ take e made ∙ take_at (quotient r (take d v)) (drop d v) d count

  divided_lead : get_or v' 0 0 ≡ get_or v 0 0
  divided_lead =
      ap (λ (l : List ℕ). get_or l 0 0) made
      ∙ get_or-append (quotient r (take d v)) (drop d v) 0 0 (omega (arith, count))
      ∙ quotient_first r (take d v) ∙ get_or-take d v 0 0 some

  divided_count : length v' ≡ length v
  divided_count =
      ap length made ∙ length-append (quotient r (take d v)) (drop d v)
      ∙ (let e : length (quotient r (take d v)) + length (drop d v) ≡ length v
      = omega (arith, count, length-drop d v, k.room) in e)

  divided_bytes : Bytes v'
  divided_bytes =
      subst Bytes (sym made)
      (bytes-append (quotient r (take d v)) (drop d v) quotient_bytes (bytes_drop d v k.bytes))

  pub divided : Coefficients v' (d - 1)
  divided =
      record {
        room = omega (arith, divided_count, k.room);
        short = omega (arith, divided_count, k.short);
        bytes = divided_bytes;
        lead = omega (arith, divided_lead, k.lead);
      }

-- where the locator is 0 at a place p, and at another, its quotient is 0 at the other
module _ {u w s v : List ℕ} {d p : ℕ} (g : Going u w s v d p) (zero_here : at v d p ≡ 0) where
  abbrev pub left_over : List ℕ
  left_over = quotient (step_to p) (take d v)

  whole : take (suc d) v ≡ take d v ++ (get_or v d 0 ∷ [])
  whole = take-suc v d 0 g.coefficients.room

  other_locator : (i : ℕ) → i < length u → (length u - suc i ≡ p → ⊥) → step_to (length u - suc i) ≡ step_to p → ⊥
  other_locator i here other e =
      let most = g.word.most in
      other (steps_differ (length u - suc i) p (omega arith) (omega (arith, g.place)) e)

  pub still_zero : (i : ℕ) → i < length u → (length u - suc i ≡ p → ⊥) → at v d (length u - suc i) ≡ 0
      → value_at (step_to (length u - suc i)) left_over ≡ 0
  still_zero i here other z =
      let q = length u - suc i in
      quotient-zero (step_to q) (step_to p) (get_or v d 0) (take d v) (alpha_to-lt _) (alpha_to-lt _)
      (bytes_take d v g.coefficients.bytes) (other_locator i here other)
      (sym (ap (value_at (step_to p)) whole) ∙ zero_here) (sym (ap (value_at (step_to q)) whole) ∙ z)

  module _ (some : 0 < d) {v' : List ℕ} (made : v' ≡ left_over ++ drop d v) where
    front : (q : ℕ) → at v' (d - 1) q ≡ value_at (step_to q) left_over
    front q = ap (value_at (step_to q)) (divided_front g.coefficients some (step_to p) made)

    zero_again : value_at (step_to p) left_over ≡ 0 → (i : ℕ) → i < length u → at v d (length u - suc i) ≡ 0
        → at v' (d - 1) (length u - suc i) ≡ 0
    zero_again y i here z =
        front (length u - suc i) ∙ by_test (eqb (length u - suc i) p)
        (λ t. ap (λ (q : ℕ). value_at (step_to q) left_over) (eqb-true _ p t) ∙ y)
        (λ t. still_zero i here (eqb-false _ p t) z)

    settled_again : value_at (step_to p) left_over ≡ 0 → Settled u w v' (d - 1) p
    settled_again y c near i here =
        ⊎_elim inl (λ left. inr (left.0, zero_again y i here left.1)) (g.settled c near i here)

    -- a root of higher order
    pub going_again : value_at (step_to p) left_over ≡ 0 → Going u w s v' (d - 1) p
    going_again y =
        going_of g.word (omega (arith, g.few)) (divided g.coefficients some (step_to p) made) g.place
        (settled_again y)

    -- a wrong byte
    module _ (more : p + 1 < length u) {y e : ℕ} {w' s' : List ℕ} (pos : 0 < y) (small : y < 256)
        (is : y ≡ value_at (step_to p) left_over) (tells : Tells s left_over y p e) (follow : Followed s p e s')
        (mended : w' ≡ added w (length w - 1 - p) e) where
      abbrev j : ℕ
      j = length w - 1 - p

      here_j : j < length w
      here_j = omega (arith, g.word.count)

      place_j : length w - suc j ≡ p
      place_j = omega (arith, g.word.count)

      other_place : (i : ℕ) → i < length u → (i ≡ j → ⊥) → length u - suc i ≡ p → ⊥
      other_place i here other e = other (omega (arith, g.word.count))

      next_place : (i : ℕ) → i < length u → (i ≡ j → ⊥) → i + p < length u → i + (p + 1) < length u
      next_place i here other low =
          by_test (ltb (i + (p + 1)) (length u)) (ltb-true (i + (p + 1)) (length u))
          (λ t. let e : i ≡ j = omega (arith, g.word.count, ltb-false (i + (p + 1)) (length u) t) in
          absurd (other e))

      zero_other : (i : ℕ) → i < length u → (i ≡ j → ⊥) → at v d (length u - suc i) ≡ 0
          → at v' (d - 1) (length u - suc i) ≡ 0
      zero_other i here other z = front (length u - suc i) ∙ still_zero i here (other_place i here other) z

      module _ (c : List ℕ) (near : Near 16 u c) where
        zero_elsewhere : (i : ℕ) → i < length u → (i ≡ j → ⊥)
            → (get_or (errors g.word c near) i 0 ≡ 0) ⊎ (value_at (step_to (length u - suc i)) left_over ≡ 0)
        zero_elsewhere i here other =
            ⊎_elim
            (λ same. inl (error_at g.word c near i ∙ ap (bit_xor (get_or w i 0)) (sym same) ∙ xor_self (get_or w i 0)))
            (λ left. inr (still_zero i here (other_place i here other) left.1)) (g.settled c near i here)

        error_is : e ≡ get_or (errors g.word c near) j 0
        error_is =
            let q = quotient_bytes g.coefficients some (step_to p) made in
            let k = g.coefficients in
            error_right g.word c near left_over q j p (omega (arith, g.word.count))
            (ap (λ (n : ℕ). n - suc j) (sym g.word.count) ∙ place_j)
            (omega (arith, count k some (step_to p) made, k.room, k.short)) zero_elsewhere y e pos small is tells

        mended_here : get_or w' j 0 ≡ get_or c j 0
        mended_here =
            let x = get_or w j 0 in
            ap (λ (l : List ℕ). get_or l j 0) mended ∙ get_or-set_same w j _ 0 here_j
            ∙ ap (bit_xor x) (error_is ∙ error_at g.word c near j) ∙ xor_cancel x (get_or c j 0)

        elsewhere : (i : ℕ) → (i ≡ j → ⊥) → get_or w' i 0 ≡ get_or w i 0
        elsewhere i other = ap (λ (l : List ℕ). get_or l i 0) mended ∙ get_or-set_other w j i _ 0 other

        settled_other : (i : ℕ) → i < length u → (i ≡ j → ⊥)
            → (get_or w' i 0 ≡ get_or c i 0) ⊎ ((i + (p + 1) < length u) × (at v' (d - 1) (length u - suc i) ≡ 0))
        settled_other i here other =
            ⊎_elim (λ same. inl (elsewhere i other ∙ same))
            (λ left. inr (next_place i here other left.0, zero_other i here other left.1))
            (g.settled c near i here)

      mended_bytes : Bytes w'
      mended_bytes = subst Bytes (sym mended) (bytes_added w j e g.word.bytes tells.byte here_j)

      mended_first : get_or w' 0 0 ≡ get_or u 0 0
      mended_first =
          ap (λ (l : List ℕ). get_or l 0 0) mended ∙ get_or-set_other w j 0 _ 0 (λ z. omega (arith, g.word.count))
          ∙ g.word.first

      mended_held : Held w' s'
      mended_held =
          subst (λ (l : List ℕ). Held l s') (sym mended)
          (held_added w j e g.word.bytes tells.byte here_j place_j g.word.held follow)

      mended_word : Word u w' s'
      mended_word =
          let old = g.word in
          word_of old.some old.most (ap length mended ∙ length-set w j _ ∙ old.count) mended_bytes mended_first
          mended_held

      mended_few : apart u w' ≤ apart u w + 1
      mended_few =
          let through : apart u (added w j e) ≤ apart w u + apart w (added w j e) =
          apart_through w u (added w j e) g.word.count (sym (length-set w j _)) in
          omega (arith, ap (apart u) mended, through, apart_comm w u, apart-set w j (bit_xor (get_or w j 0) e))

      mended-settled : Settled u w' v' (d - 1) (p + 1)
      mended-settled c near i here =
          by_test (eqb i j)
          (λ t. inl (subst (λ (k : ℕ). get_or w' k 0 ≡ get_or c k 0) (sym (eqb-true i j t)) (mended_here c near)))
          (λ t. settled_other c near i here (eqb-false i j t))

      pub going_on : Going u w' s' v' (d - 1) (p + 1)
      going_on =
          going_of mended_word (omega (arith, mended_few, g.few)) (divided g.coefficients some (step_to p) made) more
          mended-settled

-- ---- the end

module _ {u w s v : List ℕ} {d p : ℕ} (g : Going u w s v d p) where
  -- a constant has no zero
  constant : d ≡ 0 → (q : ℕ) → at v d q ≡ 0 → ⊥
  unfolding eval_from
  constant none q z =
      let one : take (suc d) v ≡ get_or v 0 0 ∷ [] =
      ap (λ (n : ℕ). take (suc n) v) none ∙ take-suc v 0 0 (omega (arith, g.coefficients.room)) in
      let value : at v d q ≡ get_or v 0 0 =
      ap (value_at (step_to q)) one ∙ ap (λ (x : ℕ). bit_xor x (get_or v 0 0)) (mul-zero_l (step_to q)) in
      omega (arith, value, z, g.coefficients.lead)

  module _ (over : (d ≡ 0) ⊎ (length u ≤ p + 1)) (c : List ℕ) (near : Near 16 u c) where
    last_byte : (i : ℕ) → i + p < length u → length u ≤ p + 1 → get_or w i 0 ≡ get_or c i 0
    last_byte i low all =
        let e : i ≡ 0 = omega arith in
        ap (λ (k : ℕ). get_or w k 0) e ∙ g.word.first ∙ sym near.first ∙ ap (λ (k : ℕ). get_or c k 0) (sym e)

    byte_right : (i : ℕ) → i < length u → get_or w i 0 ≡ get_or c i 0
    byte_right i here =
        ⊎_elim (λ same. same)
        (λ left. ⊎_elim (λ none. absurd (constant none _ left.1)) (last_byte i left.0) over)
        (g.settled c near i here)

    all_right : w ≡ c
    all_right =
        ext_get_or 0 w c (g.word.count ∙ sym near.count) (λ i here. byte_right i (omega (arith, g.word.count)))

  pub going_end : (d ≡ 0) ⊎ (length u ≤ p + 1) → Ended u w s
  going_end over =
      record { word = g.word; few = omega (arith, g.few); right = all_right over }
