-- A pattern within sixteen consecutive digits leaves 0 only if it is zeros.
--     window_front, window_back    so do those of its parts, wherever it is cut
--     in_window        a pattern in the first sixteen places
--     anywhere         a law of patterns in the first places is one of patterns anywhere
--     window_zeros     the law
-- Assumes nothing.
use mathlib.Core.List.{List, [], ◌∷◌, ◌++◌}
use mathlib.Core.Path.{◌≡◌, refl, sym, ap, ◌∙◌, subst}
use Prim.Native.Nat.{ℕ, zero, suc, ◌+◌, ◌-◌, ◌*◌, ◌%◌, ◌≤◌, ◌<◌, ◌^◌}
use native.Mathlib.Nat.{pow-suc}
use native.Mathlib.Omega.{arith}
use lib.Bits.{bit_xor, xor_zero_r, xor_shifted}
use lib.ListN.{length, get_or}
use lib.Pow.{pow_mono}
use lib.Seq.{get_or-append-add}
use Rattle.crc.specs.Check.{bit_in}
use Rattle.crc.proofs.CheckLaws.{bit_in_low, bit_in-lt}
use Rattle.patterns.proofs.Patterns.{left, Digits, Zeros, ones, Behind, InWindow}
use Rattle.patterns.proofs.RegisterLaws.{bit_in_none}
use Rattle.patterns.proofs.ZerosLaws.{zeros-cons, not_one}

-- one more digit of a number that has room for it
pub digit_in : (v t : ℕ) → v < 32768 → t < 2 → bit_xor (bit_in v) t ≡ v * 2 + t
digit_in v t hv ht =
    let whole : v * 2 % 65536 ≡ v * 2 = omega arith in
    ap (λ (x : ℕ). bit_xor x t) (sym (bit_in_low v hv) ∙ whole) ∙ xor_shifted v 1 t ht

-- n digits of the window are to come, and the register is still the number of those that came
pub in_window :
    (n v : ℕ) (u : List ℕ) → n ≤ 16 → v < 2 ^ (16 - n) → Digits u → Behind n u → left v u ≡ 0 → (v ≡ 0) × Zeros u
unfolding left
in_window n v [] le h d behind none = (none, λ p. refl)
in_window zero v (t ∷ u) le h d behind none =
    let rest = in_window zero (bit_in v) u le (bit_in-lt v) (λ p. d (suc p)) (λ p i. behind (suc p) (omega arith))
    (ap (λ (x : ℕ). left x u) (sym (ap (bit_xor (bit_in v)) (behind 0 (omega arith)) ∙ xor_zero_r (bit_in v))) ∙ none)
    in
    (bit_in_none v h rest.0, zeros-cons t u (behind 0 (omega arith)) rest.1)
in_window (suc n) v (t ∷ u) le h d behind none =
    let room : 16 - n ≡ suc (16 - suc n) = omega arith in
    let double : 2 ^ (16 - n) ≡ 2 ^ (16 - suc n) * 2 = ap (λ (x : ℕ). 2 ^ x) room ∙ pow-suc 2 (16 - suc n) in
    let low : v < 32768 = omega (arith, pow_mono {i = 16 - suc n} {j = 15} (omega arith)) in
    let next = digit_in v t low (d 0) in
    let rest = in_window n (v * 2 + t) u (omega arith) (omega (arith, double, d 0)) (λ p. d (suc p))
    (λ p i. behind (suc p) (omega arith)) (ap (λ (x : ℕ). left x u) (sym next) ∙ none) in
    (omega (arith, rest.0), zeros-cons t u (omega (arith, rest.0)) rest.1)

-- What holds of patterns in the first w places holds of those in any w consecutive ones: the zeros before them leave
-- the register at 0. The law may ask for more, as long as the number of ones tells it.
module _
    (w : ℕ) (More : ℕ → Type 0)
    (law : (u : List ℕ) → Digits u → Behind w u → More (ones u) → left 0 u ≡ 0 → Zeros u) where
  from_first :
      (first : ℕ) (u : List ℕ) → Digits u → ((p : ℕ) → (get_or u p 0 ≡ 0 → ⊥) → (first ≤ p) × (p < first + w))
      → More (ones u) → left 0 u ≡ 0 → Zeros u
  unfolding left ones bit_in
  from_first first [] d within more none = λ p. refl
  from_first zero (t ∷ u) d within more none =
      law (t ∷ u) d
      (λ p far. not_one (get_or (t ∷ u) p 0) (d p) (λ one. absurd (omega (arith, (within p one).1)))) more none
  from_first (suc first) (t ∷ u) d within more none =
      let zero_first : t ≡ 0 = not_one t (d 0) (λ one. absurd (omega (arith, (within 0 one).0))) in
      let fewer : t + ones u ≡ ones u = omega arith in
      zeros-cons t u zero_first
      (from_first first u (λ p. d (suc p))
      (λ p one. let at = within (suc p) one in (omega (arith, at.0), omega (arith, at.1))) (subst More fewer more)
      (ap (λ (x : ℕ). left x u) (sym zero_first) ∙ none))

  pub anywhere : (u : List ℕ) → Digits u → InWindow w u → More (ones u) → left 0 u ≡ 0 → Zeros u
  anywhere u d (first, within) = from_first first u d within

pub window_zeros : (w : ℕ) → w ≤ 16 → (u : List ℕ) → Digits u → InWindow w u → left 0 u ≡ 0 → Zeros u
window_zeros w le u d within =
    anywhere w (λ n. ◌≡◌ {A = ℕ} n n)
    (λ v e behind more none. (in_window 16 0 v (omega arith) (omega arith) e (λ p far. behind p (omega arith)) none).1)
    u d within refl

-- ---- parts of a pattern

pub front_one : (u v : List ℕ) (p : ℕ) → (get_or u p 0 ≡ 0 → ⊥) → get_or (u ++ v) p 0 ≡ get_or u p 0
front_one [] v p one = absurd (one refl)
front_one (t ∷ u) v zero one = refl
front_one (t ∷ u) v (suc p) one = front_one u v p one

pub window_front : (w : ℕ) (u v : List ℕ) → InWindow w (u ++ v) → InWindow w u
window_front w u v (first, within) = (first, λ p one. within p (λ e. one (sym (front_one u v p one) ∙ e)))

-- a window that began before the cut begins at it
pub window_back : (w : ℕ) (u v : List ℕ) → InWindow w (u ++ v) → InWindow w v
window_back w u v (first, within) = (
  first - length u,
  λ p one.
      let at = within (length u + p) (λ e. one (sym (get_or-append-add u v p 0) ∙ e)) in
      (omega (arith, at.0), omega (arith, at.1)),
)
