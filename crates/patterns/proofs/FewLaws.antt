-- A pattern of at most five ones within 151 consecutive digits leaves 0 only if it is zeros. Odd numbers of ones never
-- leave 0 (OddLaws); for two and four antt tries all places.
--     step, flip         the register's step and its sum with 1, as antt has the least to do
--     avoids f k n r     from the register r no k + 1 ones within n digits lead to 0, where f is true of every register
--                        from which one more does: tried place by place
--     shelf, found       such an f that is quick: the 150 powers of x, on shelves by their last two hexadecimal digits
--     two_more           what antt found: from a first one on, neither one nor three more lead to 0
--     one_left           what the last one leads to 0 is a power of x, so f is true of it
--     few_zeros          the law
-- Assumes nothing.
use mathlib.Core.Bool.{Bool, true, false, cond, not, ◌&&◌}
use mathlib.Core.List.{List, [], ◌∷◌}
use mathlib.Core.Path.{◌≡◌, refl, sym, ap, ◌∙◌, subst}
use Prim.Native.Nat.{ℕ, zero, suc, ◌+◌, ◌*◌, ◌-◌, ◌/◌, ◌%◌, ◌≤◌, ◌<◌}
use native.Mathlib.Nat.{not-suc-le-zero}
use native.Mathlib.Omega.{arith}
use borrow.Author.Tests.{ltb-true, ltb-false}
use lib.Bits.{bit_xor, xor_lt, xor_zero_r, xor_shifted}
use lib.Dec.{ltb, eqb, T}
use lib.Ieee.Fits.{and_l, and_r}
use lib.ListN.{get_or}
use Rattle.ground.proofs.CaseLaws.{by_test, zero_not_one}
use Rattle.ground.proofs.TableLaws.{values, passed}
use Rattle.ground.proofs.XorLaws.{xor_equal, xor_cancel_r}
use Rattle.crc.specs.Check.{bit_in, bits_in}
use Rattle.crc.proofs.CheckLaws.{bit_in-lt, bit_in_low, bit_in_high}
use Rattle.crc.proofs.RemainderLaws.{bits_in-add}
use Rattle.patterns.proofs.Patterns.{left, Digits, Zeros, ones, Behind, InWindow}
use Rattle.patterns.proofs.RegisterLaws.{bits_in_same}
use Rattle.patterns.proofs.ZerosLaws.{zeros-cons}
use Rattle.patterns.proofs.WindowLaws.{in_window, anywhere}
use Rattle.patterns.proofs.OddLaws.{even_ones}

-- ---- what antt tries

step : ℕ → ℕ
step r = cond (ltb r 32768) (r * 2) (bit_xor (r * 2 - 65536) 0x3D65)

flip : ℕ → ℕ
flip r = r + 1 - r % 2 * 2

unfoldable avoids : (ℕ → Bool) → ℕ → ℕ → ℕ → Bool
avoids f zero n r = not (f r)
avoids f (suc k) zero r = true
avoids f (suc k) (suc n) r = avoids f k n (flip (step r)) && avoids f (suc k) n (step r)

unfoldable powers : ℕ → ℕ → List ℕ
powers zero r = []
powers (suc n) r = r ∷ powers n (step r)

unfoldable kept : (ℕ → Bool) → List ℕ → List ℕ
kept f [] = []
kept f (y ∷ ys) = cond (f y) (y ∷ kept f ys) (kept f ys)

shelf : List ℕ → List (List (List ℕ))
shelf ys =
    values (λ i.
    let row = kept (λ y. eqb (y % 16) i) ys in values (λ j. kept (λ y. eqb (y / 16 % 16) j) row) 16 0)
    16 0

unfoldable among : List ℕ → ℕ → Bool
among [] r = false
among (y ∷ ys) r = cond (eqb y r) true (among ys r)

found : List (List (List ℕ)) → ℕ → Bool
found t r = among (get_or (get_or t (r % 16) []) (r / 16 % 16) []) r

is_power : ℕ → Bool
is_power = found (shelf (powers 150 2))

unfoldable all : (ℕ → Bool) → ℕ → ℕ → Bool
all f zero r = true
all f (suc n) r = f r && all f n (step r)

all_powers : T (all is_power 150 2)
unfolding all is_power shelf found powers among kept step
all_powers = tt

two_more : T (avoids is_power 0 150 1 && avoids is_power 2 150 1)
unfolding avoids is_power shelf found powers among kept step flip
two_more = tt

-- ---- its steps are those of the register

step_is : (r : ℕ) → r < 65536 → step r ≡ bit_in r
unfolding step
step_is r h =
    by_test (ltb r 32768)
    (λ t.
    let low : r < 32768 = ltb-true r 32768 t in
    let whole : r * 2 ≡ r * 2 % 65536 = omega arith in
    rw t (whole ∙ bit_in_low r low))
    (λ t.
    let high : 32768 ≤ r = ltb-false r 32768 t in
    let cut : r * 2 - 65536 ≡ r * 2 % 65536 = omega arith in
    rw t (ap (λ (x : ℕ). bit_xor x 0x3D65) cut ∙ bit_in_high r high h))

flip_is : (r : ℕ) → flip r ≡ bit_xor r 1
unfolding flip
flip_is r = by_digit (r % 2) refl
  where
    by_digit : (t : ℕ) → r % 2 ≡ t → r + 1 - r % 2 * 2 ≡ bit_xor r 1
    by_digit zero e =
        let even : r / 2 * 2 ≡ r = omega arith in
        let next : r + 1 - r % 2 * 2 ≡ r / 2 * 2 + 1 = omega arith in
        next ∙ sym (xor_shifted (r / 2) 1 1 (omega arith)) ∙ ap (λ (x : ℕ). bit_xor x 1) even
    by_digit (suc zero) e =
        let odd : r / 2 * 2 + 1 ≡ r = omega arith in
        let next : r + 1 - r % 2 * 2 ≡ r / 2 * 2 = omega arith in
        next ∙ sym (xor_cancel_r (r / 2 * 2) 1)
        ∙ ap (λ (x : ℕ). bit_xor x 1) (xor_shifted (r / 2) 1 1 (omega arith) ∙ odd)
    by_digit (suc (suc t)) e = absurd (omega arith)

all_at : (f : ℕ → Bool) (n r : ℕ) → r < 65536 → T (all f n r) → (i : ℕ) → i < n → f (bits_in i r) ≡ true
unfolding all bits_in
all_at f zero r h p i below = absurd (not-suc-le-zero below)
all_at f (suc n) r h p zero below = passed (f r) (and_l (f r) (all f n (step r)) p)
all_at f (suc n) r h p (suc i) below =
    all_at f n (bit_in r) (bit_in-lt r)
    (subst (λ (x : ℕ). T (all f n x)) (step_is r h) (and_r (f r) (all f n (step r)) p)) i (omega arith)

steps-lt : (n r : ℕ) → r < 65536 → bits_in n r < 65536
unfolding bits_in
steps-lt zero r h = h
steps-lt (suc n) r h = steps-lt n (bit_in r) (bit_in-lt r)

not_both : (t : Bool) → t ≡ true → T (not t) → ⊥
not_both true e p = p
not_both false e p = zero_not_one cc

-- ---- the last one

pub ones_none : (u : List ℕ) → ones u ≡ 0 → Zeros u
unfolding ones
ones_none [] e = λ p. refl
ones_none (t ∷ u) e = zeros-cons t u (omega arith) (ones_none u (omega arith))

none_ones : (u : List ℕ) → Zeros u → ones u ≡ 0
unfolding ones
none_ones [] z = refl
none_ones (t ∷ u) z = omega (arith, z 0, none_ones u (λ p. z (suc p)))

-- zeros lead to 0 only from 0
zeros_from : (r : ℕ) (u : List ℕ) → r < 65536 → Digits u → Zeros u → left r u ≡ 0 → r ≡ 0
zeros_from r u h d z none = (in_window 0 r u (omega arith) h d (λ p i. z p) none).0

digit_lt : (r t : ℕ) → t < 2 → bit_xor (bit_in r) t < 65536
digit_lt r t h = xor_lt 16 (bit_in r) t (bit_in-lt r) (omega arith)

one_left :
    (n r : ℕ) (u : List ℕ) → r < 65536 → Digits u → Behind n u → ones u ≡ 1 → left r u ≡ 0
    → (j : ℕ) × ((j < n) × (bits_in (suc j) r ≡ 1))
unfolding left ones bits_in
one_left n r [] h d behind one none = absurd (omega arith)
one_left zero r (t ∷ u) h d behind one none = absurd (omega (arith, none_ones (t ∷ u) (λ p. behind p (omega arith))))
one_left (suc n) r (zero ∷ u) h d behind one none =
    let next = ap (λ (x : ℕ). left x u) (sym (xor_zero_r (bit_in r))) ∙ none in
    let later = one_left n (bit_in r) u (bit_in-lt r) (λ p. d (suc p)) (λ p i. behind (suc p) (omega arith))
    (omega arith) next in
    (suc later.0, (omega (arith, later.1.0), later.1.1))
one_left (suc n) r (suc zero ∷ u) h d behind one none =
    let last = zeros_from (bit_xor (bit_in r) 1) u (digit_lt r 1 (omega arith)) (λ p. d (suc p))
    (ones_none u (omega arith)) none in
    (0, (omega arith, xor_equal (bit_in r) 1 last))
one_left (suc n) r (suc (suc t) ∷ u) h d behind one none = absurd (omega (arith, d 0))

-- x ^ 151 is 1, so what j + 1 steps lead to 1 is one of the 150 powers
power_found : (j r : ℕ) → j < 150 → r < 65536 → bits_in (suc j) r ≡ 1 → is_power r ≡ true
unfolding bits_in bit_in
power_found j r below h one =
    let i = 149 - j in
    let turn : bits_in i 2 ≡ r = bits_in_same (suc j) (bits_in i 2) r (bits_in-lt i) h
    (bits_in-add (suc j) i 2 ∙ ap (λ (n : ℕ). bits_in n 2) (whole j below) ∙ sym one) in
    ap is_power (sym turn) ∙ all_at is_power 150 2 (omega arith) all_powers i (omega arith)
  where
    whole : (j : ℕ) → j < 150 → 149 - j + suc j ≡ 150
    whole j below = omega arith

    bits_in-lt : (n : ℕ) → bits_in n 2 < 65536
    bits_in-lt n = steps-lt n 2 (omega arith)

-- ---- the law

-- what was tried of a register and the places behind it, one step on: with a zero there, and with a one
tried_zero :
    (k n r : ℕ) → r < 65536 → T (avoids is_power (suc k) (suc n) r) → T (avoids is_power (suc k) n (bit_in r))
unfolding avoids
tried_zero k n r h p =
    subst (λ (x : ℕ). T (avoids is_power (suc k) n x)) (step_is r h) (and_r (avoids is_power k n (flip (step r))) _ p)

tried_one :
    (k n r : ℕ) → r < 65536 → T (avoids is_power (suc k) (suc n) r) → T (avoids is_power k n (bit_xor (bit_in r) 1))
unfolding avoids
tried_one k n r h p =
    subst (λ (x : ℕ). T (avoids is_power k n x)) (flip_is (step r) ∙ ap (λ (x : ℕ). bit_xor x 1) (step_is r h))
    (and_l (avoids is_power k n (flip (step r))) _ p)

avoids_last :
    (n r : ℕ) (u : List ℕ) → n ≤ 150 → r < 65536 → Digits u → Behind n u → ones u ≡ 1 → T (avoids is_power 0 n r)
    → left r u ≡ 0 → ⊥
unfolding avoids
avoids_last n r u le h d behind one p none =
    let j = one_left n r u h d behind one none in
    not_both (is_power r) (power_found j.0 r (omega (arith, j.1.0)) h j.1.1) p

avoids_left :
    (k n r : ℕ) (u : List ℕ) → n ≤ 150 → r < 65536 → Digits u → Behind n u → ones u ≡ suc k → T (avoids is_power k n r)
    → left r u ≡ 0 → ⊥
unfolding left ones
avoids_left zero n r u le h d behind one p none = avoids_last n r u le h d behind one p none
avoids_left (suc k) zero r u le h d behind one p none = omega (arith, none_ones u (λ i. behind i (omega arith)))
avoids_left (suc k) (suc n) r [] le h d behind one p none = omega arith
avoids_left (suc k) (suc n) r (zero ∷ u) le h d behind one p none =
    avoids_left (suc k) n (bit_in r) u (omega arith) (bit_in-lt r) (λ q. d (suc q))
    (λ q i. behind (suc q) (omega arith))
    (omega arith) (tried_zero k n r h p) (ap (λ (x : ℕ). left x u) (sym (xor_zero_r (bit_in r))) ∙ none)
avoids_left (suc k) (suc n) r (suc zero ∷ u) le h d behind one p none =
    avoids_left k n (bit_xor (bit_in r) 1) u (omega arith) (digit_lt r 1 (omega arith)) (λ q. d (suc q))
    (λ q i. behind (suc q) (omega arith)) (omega arith) (tried_one k n r h p) none
avoids_left (suc k) (suc n) r (suc (suc t) ∷ u) le h d behind one p none = omega (arith, d 0)

-- from a first one on, the rest within 150 digits
first_one : (u : List ℕ) → Digits u → Behind 150 u → ones u ≤ 4 → ones u % 2 ≡ 1 → left 1 u ≡ 0 → ⊥
first_one u d behind few odd none = by_count (ones u) refl
  where
    by_count : (m : ℕ) → ones u ≡ m → ⊥
    by_count zero e = omega arith
    by_count (suc zero) e =
        avoids_left 0 150 1 u (omega arith) (omega arith) d behind e (and_l (avoids is_power 0 150 1) _ two_more) none
    by_count (suc (suc zero)) e = omega arith
    by_count (suc (suc (suc zero))) e =
        avoids_left 2 150 1 u (omega arith) (omega arith) d behind e (and_r (avoids is_power 0 150 1) _ two_more) none
    by_count (suc (suc (suc (suc m)))) e = omega arith

-- the zeros before it leave the register at 0
few_behind :
    (n : ℕ) (u : List ℕ) → n ≤ 151 → Digits u → Behind n u → ones u ≤ 5 → ones u % 2 ≡ 0 → left 0 u ≡ 0 → Zeros u
unfolding left ones bit_in
few_behind n [] le d behind few even none = λ p. refl
few_behind zero (t ∷ u) le d behind few even none = λ p. behind p (omega arith)
few_behind (suc n) (zero ∷ u) le d behind few even none =
    zeros-cons 0 u refl
    (few_behind n u (omega arith) (λ p. d (suc p)) (λ p i. behind (suc p) (omega arith)) (omega arith) (omega arith)
    none)
few_behind (suc n) (suc zero ∷ u) le d behind few even none =
    absurd (first_one u (λ p. d (suc p)) (λ p i. behind (suc p) (omega arith)) (omega arith) (omega arith) none)
few_behind (suc n) (suc (suc t) ∷ u) le d behind few even none = absurd (omega (arith, d 0))

pub few_zeros : (u : List ℕ) → Digits u → InWindow 151 u → ones u ≤ 5 → left 0 u ≡ 0 → Zeros u
few_zeros u d within few none =
    anywhere 151 (λ n. (n ≤ 5) × (n % 2 ≡ 0))
    (λ v e behind more. few_behind 151 v (omega arith) e behind more.0 more.1) u d within
    (few, even_ones u d none) none
