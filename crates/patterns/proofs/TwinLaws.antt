-- A pattern within seventeen consecutive digits, the first two of them equal, leaves 0 only if it is zeros: within so
-- many only the polynomial itself leaves 0, and it begins with 1 and 0.
--     Twin u          all that are not 0 lie within 17 consecutive places, and at the first two of these u is the same
--     NearTwin u      that, or within 16
--     begun_with_ones the register stays above 0 behind two ones
--     near_zeros      the law
--     twin_front, twin_back    patterns of this kind can be cut
-- Assumes nothing.
use mathlib.Core.List.{List, [], ◌∷◌, ◌++◌}
use mathlib.Core.Logic.{◌⊎◌, inl, inr, ⊎_elim}
use mathlib.Core.Path.{◌≡◌, refl, sym, ap, ◌∙◌}
use Prim.Native.Nat.{ℕ, zero, suc, ◌+◌, ◌-◌, ◌*◌, ◌/◌, ◌%◌, ◌≤◌, ◌<◌, ◌^◌}
use native.Mathlib.Nat.{pow-suc}
use native.Mathlib.Omega.{arith}
use borrow.Author.Tests.{ltb-true, ltb-false}
use lib.Bits.{bit_xor, xor_shr, xor_lt}
use lib.Dec.{ltb}
use lib.ListN.{length, get_or, get_or-append}
use lib.Pow.{pow_mono, pow_pos}
use lib.Seq.{get_or-append-add}
use Rattle.ground.proofs.CaseLaws.{by_test}
use Rattle.crc.specs.Check.{bit_in}
use Rattle.crc.proofs.CheckLaws.{bit_in_high, bit_in-lt}
use Rattle.patterns.proofs.Patterns.{left, Digits, Zeros, Behind, InWindow}
use Rattle.patterns.proofs.ZerosLaws.{not_one, zeros-cons, inside}
use Rattle.patterns.proofs.WindowLaws.{digit_in, in_window, window_zeros, window_front, window_back, front_one}

abbrev pub Twin : List ℕ → Type 0
Twin u =
    (first : ℕ) × (((p : ℕ) → (get_or u p 0 ≡ 0 → ⊥) → (first ≤ p) × (p < first + 17))
    × (get_or u first 0 ≡ get_or u (suc first) 0))

abbrev pub NearTwin : List ℕ → Type 0
NearTwin u = InWindow 16 u ⊎ Twin u

-- ---- behind two ones

-- the highest digit of a sum is that of the one that has it
xor_top : (a b : ℕ) → a / 32768 ≡ 1 → b / 32768 ≡ 0 → bit_xor a b / 32768 ≡ 1
xor_top a b top none = xor_shr a b 15 ∙ ap (bit_xor (a / 32768)) none ∙ ap (λ (x : ℕ). bit_xor x 0) top

-- the seventeenth digit: the polynomial is added, and its second digit is 0
last_step : (v d : ℕ) → 49152 ≤ v → v < 65536 → d < 2 → bit_xor (bit_in v) d / 32768 ≡ 1
last_step v d low high digit =
    let shifted : v * 2 % 65536 / 32768 ≡ 1 = omega arith in
    let one : d / 32768 ≡ 0 = omega arith in
    let added = ap (λ (x : ℕ). x / 32768) (sym (bit_in_high v (omega arith) high)) in
    xor_top (bit_in v) d (added ∙ xor_top (v * 2 % 65536) 0x3D65 shifted refl) one

begun_with_ones :
    (n v : ℕ) (u : List ℕ) → n ≤ 14 → 3 * 2 ^ (14 - n) ≤ v → v < 4 * 2 ^ (14 - n) → Digits u → Behind (suc n) u
    → left v u ≡ 0 → ⊥
unfolding left
begun_with_ones n v [] le low high d behind none = omega (arith, pow_pos (14 - n))
begun_with_ones zero v (t ∷ u) le low high d behind none =
    let top = last_step v t low high (d 0) in
    let small = xor_lt 16 (bit_in v) t (bit_in-lt v) (omega (arith, d 0)) in
    let last = (in_window 0 (bit_xor (bit_in v) t) u (omega arith) small (λ p. d (suc p))
    (λ p i. behind (suc p) (omega arith)) none).0 in
    omega (arith, top, last)
begun_with_ones (suc n) v (t ∷ u) le low high d behind none =
    let room : 14 - n ≡ suc (14 - suc n) = omega arith in
    let double : 2 ^ (14 - n) ≡ 2 ^ (14 - suc n) * 2 = ap (λ (x : ℕ). 2 ^ x) room ∙ pow-suc 2 (14 - suc n) in
    let half : v < 32768 = omega (arith, pow_mono {i = 14 - suc n} {j = 13} (omega arith)) in
    begun_with_ones n (v * 2 + t) u (omega arith) (omega (arith, double)) (omega (arith, double, d 0)) (λ p. d (suc p))
    (λ p i. behind (suc p) (omega arith)) (ap (λ (x : ℕ). left x u) (sym (digit_in v t half (d 0))) ∙ none)

-- ---- the law

-- from its first place on
twin_first : (u : List ℕ) → Digits u → Behind 17 u → get_or u 0 0 ≡ get_or u 1 0 → left 0 u ≡ 0 → Zeros u
unfolding left bit_in
twin_first [] d behind twin none = λ p. refl
twin_first (t ∷ []) d behind twin none = zeros-cons t [] twin (λ p. refl)
twin_first (zero ∷ zero ∷ u) d behind twin none =
    zeros-cons 0 (0 ∷ u) refl
    (zeros-cons 0 u refl
    (in_window 16 0 u (omega arith) (omega arith) (λ p. d (suc (suc p))) (λ p far. behind (suc (suc p)) (omega arith))
    none).1)
twin_first (zero ∷ suc t ∷ u) d behind twin none = absurd (omega arith)
twin_first (suc zero ∷ zero ∷ u) d behind twin none = absurd (omega arith)
twin_first (suc zero ∷ suc zero ∷ u) d behind twin none =
    absurd (begun_with_ones 14 3 u (omega arith) (omega arith) (omega arith) (λ p. d (suc (suc p)))
    (λ p far. behind (suc (suc p)) (omega arith)) none)
twin_first (suc zero ∷ suc (suc t) ∷ u) d behind twin none = absurd (omega (arith, d 1))
twin_first (suc (suc t) ∷ t' ∷ u) d behind twin none = absurd (omega (arith, d 0))

twin_from :
    (first : ℕ) (u : List ℕ) → Digits u → ((p : ℕ) → (get_or u p 0 ≡ 0 → ⊥) → (first ≤ p) × (p < first + 17))
    → get_or u first 0 ≡ get_or u (suc first) 0 → left 0 u ≡ 0 → Zeros u
unfolding left bit_in
twin_from zero u d within twin none =
    twin_first u d (λ p far. not_one (get_or u p 0) (d p) (λ one. absurd (omega (arith, (within p one).1)))) twin none
twin_from (suc first) [] d within twin none = λ p. refl
twin_from (suc first) (t ∷ u) d within twin none =
    let zero_first : t ≡ 0 = not_one t (d 0) (λ one. absurd (omega (arith, (within 0 one).0))) in
    zeros-cons t u zero_first
    (twin_from first u (λ p. d (suc p))
    (λ p one. let at = within (suc p) one in (omega (arith, at.0), omega (arith, at.1))) twin
    (ap (λ (x : ℕ). left x u) (sym zero_first) ∙ none))

pub near_zeros : (u : List ℕ) → Digits u → NearTwin u → left 0 u ≡ 0 → Zeros u
near_zeros u d near none =
    ⊎_elim (λ within. window_zeros 16 (omega arith) u d within none)
    (λ twin. twin_from twin.0 u d twin.1.0 twin.1.1 none) near

-- ---- parts of a pattern

near_front : (u v : List ℕ) → Twin (u ++ v) → NearTwin u
near_front u v (first, (within, twin)) =
    let there : (p : ℕ) → (get_or u p 0 ≡ 0 → ⊥) → (first ≤ p) × (p < first + 17) =
    λ p one. within p (λ e. one (sym (front_one u v p one) ∙ e)) in
    by_test (ltb (suc first) (length u))
    (λ t.
    let both = ltb-true (suc first) (length u) t in
    let same = sym (get_or-append u v 0 first (omega arith)) ∙ twin ∙ get_or-append u v 0 (suc first) both in
    inr (first, (there, same)))
    (λ t.
    let short = ltb-false (suc first) (length u) t in
    inl (first, λ p one. ((there p one).0, omega (arith, inside u p one))))

near_back : (u v : List ℕ) → Twin (u ++ v) → NearTwin v
near_back u v (first, (within, twin)) =
    let there : (p : ℕ) → (get_or v p 0 ≡ 0 → ⊥) → (first ≤ length u + p) × (length u + p < first + 17) =
    λ p one. within (length u + p) (λ e. one (sym (get_or-append-add u v p 0) ∙ e)) in
    by_test (ltb first (length u))
    (λ t.
    let cut = ltb-true first (length u) t in
    inl (0, λ p one. let at = there p one in (omega arith, omega (arith, at.1))))
    (λ t.
    let past = ltb-false first (length u) t in
    let one_on : length u + (first - length u) ≡ first = omega arith in
    let two-on : length u + suc (first - length u) ≡ suc first = omega arith in
    inr (
      first - length u,
      (
        λ p one. let at = there p one in (omega (arith, at.0), omega (arith, at.1)),
        sym (get_or-append-add u v (first - length u) 0) ∙ ap (λ (x : ℕ). get_or (u ++ v) x 0) one_on ∙ twin
            ∙ ap (λ (x : ℕ). get_or (u ++ v) x 0) (sym two-on) ∙ get_or-append-add u v (suc (first - length u)) 0,
      ),
    ))

pub twin_front : (u v : List ℕ) → NearTwin (u ++ v) → NearTwin u
twin_front u v near = ⊎_elim (λ within. inl (window_front 16 u v within)) (near_front u v) near

pub twin_back : (u v : List ℕ) → NearTwin (u ++ v) → NearTwin v
twin_back u v near = ⊎_elim (λ within. inl (window_back 16 u v within)) (near_back u v) near
