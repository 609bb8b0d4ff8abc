-- Chips written into bytes and read back (specs/Packing).
--     gather_same        words of equal chips are equal, wherever they stand
--     gather_chip        chip k of a word of w chips
--     gather_none        a word of chips 0 is 0
--     gather_rest        the last b chips of a word of a + b
--     gather_spread      the word of w chips at i * w of numbers written w chips each is number i
--     spread_gather      the chips of words that were gathered one after the other are the chips gathered
--     spread_shift       the chips from number a on
--     get_or_tabulate, length-tabulate, tabulate_same
--     chip_at_packed      a chip of the packed bytes is the chip packed, or 0 behind the last
--     word_at_packed      so is a word of them
--     length_packed      as many bytes as hold the chips
--     packed_whole       where the chips fill n bytes, each byte is a word of eight of them
--     chip_at_middle      a chip of bytes that stand between other bytes
--     packed_lt          the packed bytes are bytes
use mathlib.Core.Path.{◌≡◌, refl, ap, sym, ◌∙◌}
use mathlib.Core.Bool.{Bool, true, false, cond}
use mathlib.Core.Logic.{◌⊎◌, inl, inr, ⊎_elim}
use mathlib.Core.List.{List, ◌++◌, [], ◌∷◌}
use Prim.Native.Nat.{ℕ, zero, suc, ◌+◌, ◌*◌, ◌-◌, ◌/◌, ◌%◌, ◌^◌, ◌<◌, ◌≤◌}
use native.Mathlib.Nat.{add_assoc, zero-add, div-add-mod', zero-div, mod-lt, mul-add-div_right, mul-add-mod_self_right, div-eq_of_lt, not-suc-le-zero, le_of_suc-le-suc, eq-or-lt_of_le}
use native.Mathlib.Omega.{arith}
use borrow.Author.Tests.{lt-ltb, le-ltb, ltb-true, ltb-false}
use lib.Arith.{digits_div, digits_mod}
use lib.Dec.{ltb}
use lib.ListN.{length, get_or, length-append, get_or-append, get_or-eq_default}
use lib.Pow.{high, low, shr-shr}
use lib.Seq.{get_or-append-add, get_or_at}
use Rattle.chips.proofs.GatherLaws.{gather-add, gather-lt}
use Rattle.chips.specs.Chips.{gather, chip_at, word_at}
use Rattle.chips.specs.Packing.{spread, up_to, tabulate, packed}

pub gather_same : (f g : ℕ → ℕ) (at bt w : ℕ) → ((k : ℕ) → k < w → f (at + k) ≡ g (bt + k))
    → gather f at w ≡ gather g bt w
unfolding gather
gather_same f g at bt zero same = refl
gather_same f g at bt (suc w) same =
    let ih : gather f at w ≡ gather g bt w = gather_same f g at bt w (λ k h. same k (omega arith)) in
    let last : f (at + w) ≡ g (bt + w) = same w (omega arith) in
    rw (ih, last)

pub gather_chip : (f : ℕ → ℕ) → ((k : ℕ) → f k < 2) → (at w k : ℕ) → k < w
    → gather f at w / 2 ^ (w - 1 - k) % 2 ≡ f (at + k)
unfolding gather
gather_chip f bit at w k h =
    let cut : w ≡ suc k + (w - 1 - k) = omega arith in
    let e = ap (gather f at) cut ∙ gather-add f at (suc k) (w - 1 - k) in
    rw (e, high (gather f at (suc k)) (w - 1 - k) (gather-lt f bit (at + suc k) (w - 1 - k)))
    (omega (arith, bit (at + k)))

pub gather_none : (f : ℕ → ℕ) (at w : ℕ) → ((k : ℕ) → k < w → f (at + k) ≡ 0) → gather f at w ≡ 0
unfolding gather
gather_none f at zero none = refl
gather_none f at (suc w) none =
    let ih : gather f at w ≡ 0 = gather_none f at w (λ k h. none k (omega arith)) in
    let last : f (at + w) ≡ 0 = none w (omega arith) in
    rw (ih, last)

pub gather_rest : (f : ℕ → ℕ) → ((k : ℕ) → f k < 2) → (at a b : ℕ) → gather f at (a + b) % 2 ^ b ≡ gather f (at + a) b
gather_rest f bit at a b = rw (gather-add f at a b) (low (gather f at a) b (gather-lt f bit (at + a) b))

-- the first j binary digits of x, of which there are w, make x / 2 ^ (w - j)
gather_digits : (x w j : ℕ) → x < 2 ^ w → j ≤ w → gather (λ k. x / 2 ^ (w - 1 - k) % 2) 0 j ≡ x / 2 ^ (w - j)
unfolding gather
gather_digits x w zero h le = let e : w - 0 ≡ w = omega arith in rw e (sym (div-eq_of_lt h))
gather_digits x w (suc j) h le =
    let up : w - 1 - j + 1 ≡ w - j = omega arith in
    let half = shr-shr x (w - 1 - j) 1 ∙ ap (λ (e : ℕ). x / 2 ^ e) up in
    let there : w - suc j ≡ w - 1 - j = omega arith in
    rw (gather_digits x w j h (omega arith), zero-add, there) (omega arith)

pub gather_spread : (v : ℕ → ℕ) (w i : ℕ) → v i < 2 ^ w → gather (spread w v) (i * w) w ≡ v i
gather_spread v w i h =
    let one : w - w ≡ 0 = omega arith in
    gather_same (spread w v) (λ k. v i / 2 ^ (w - 1 - k) % 2) (i * w) 0 w
    (λ k lt. let here : 0 + k ≡ k = omega arith in rw (digits_div i lt, digits_mod i lt, here))
    ∙ (gather_digits (v i) w w h (omega arith) ∙ rw one (omega arith))

pub spread_shift : (w : ℕ) (v : ℕ → ℕ) (a k : ℕ) → 0 < w → spread w v (a * w + k) ≡ spread w (λ i. v (a + i)) k
spread_shift w v a k pos = rw (mul-add-div_right pos a k, mul-add-mod_self_right a w k)

pub spread_gather : (f : ℕ → ℕ) → ((k : ℕ) → f k < 2) → (at w k : ℕ) → 0 < w
    → spread w (λ i. gather f (at + i * w) w) k ≡ f (at + k)
spread_gather f bit at w k pos =
    let whole : at + k / w * w + k % w ≡ at + k = rw (add_assoc, div-add-mod') in
    gather_chip f bit (at + k / w * w) w (k % w) (mod-lt k pos) ∙ ap f whole

pub up_to_within : (t : ℕ) (f : ℕ → ℕ) (k : ℕ) → k < t → up_to t f k ≡ f k
up_to_within t f k h = rw (lt-ltb k t h)

pub up_to_behind : (t : ℕ) (f : ℕ → ℕ) (k : ℕ) → t ≤ k → up_to t f k ≡ 0
up_to_behind t f k h = rw (le-ltb k t h)

below_or_not : (a b : ℕ) → (a < b) ⊎ (b ≤ a)
below_or_not a b = by (ltb a b) refl where
  by : (t : Bool) → ltb a b ≡ t → (a < b) ⊎ (b ≤ a)
  by true e = inl (ltb-true a b e)
  by false e = inr (ltb-false a b e)

pub up_to_lt : (t : ℕ) (f : ℕ → ℕ) → ((k : ℕ) → f k < 2) → (k : ℕ) → up_to t f k < 2
up_to_lt t f bit k = either (ltb k t) where
  either : (b : Bool) → cond b (f k) 0 < 2
  either true = bit k
  either false = omega arith

pub length-tabulate : (f : ℕ → ℕ) (n : ℕ) → length (tabulate f n) ≡ n
unfolding tabulate
length-tabulate f zero = refl
length-tabulate f (suc n) =
    let ih : length (tabulate f n) ≡ n = length-tabulate f n in
    simp length-append (omega arith)

pub get_or_tabulate : (f : ℕ → ℕ) (n k : ℕ) → k < n → get_or (tabulate f n) k 0 ≡ f k
unfolding tabulate
get_or_tabulate f zero k h = absurd (not-suc-le-zero h)
get_or_tabulate f (suc n) k h =
    let len : length (tabulate f n) ≡ n = length-tabulate f n in
    ⊎_elim (λ e. rw e (get_or_at (tabulate f n) (f n) [] 0 n len))
    (λ lt. get_or-append (tabulate f n) (f n ∷ []) 0 k (omega arith) ∙ get_or_tabulate f n k lt)
    (eq-or-lt_of_le (le_of_suc-le-suc h))

pub tabulate_same : (f g : ℕ → ℕ) (n : ℕ) → ((k : ℕ) → k < n → f k ≡ g k) → tabulate f n ≡ tabulate g n
unfolding tabulate
tabulate_same f g zero same = refl
tabulate_same f g (suc n) same =
    let ih : tabulate f n ≡ tabulate g n = tabulate_same f g n (λ k h. same k (omega arith)) in
    let last : f n ≡ g n = same n (omega arith) in
    rw (ih, last)

pub length_packed : (t : ℕ) (f : ℕ → ℕ) → length (packed t f) ≡ (t + 7) / 8
unfolding packed
length_packed t f = length-tabulate _ _

-- byte j of the packed bytes
get_or_packed : (t : ℕ) (f : ℕ → ℕ) (j : ℕ) → j < (t + 7) / 8 → get_or (packed t f) j 0 ≡ gather (up_to t f) (8 * j) 8
unfolding packed
get_or_packed t f j h = get_or_tabulate (λ i. gather (up_to t f) (8 * i) 8) ((t + 7) / 8) j h

module _ (t : ℕ) (f : ℕ → ℕ) (bit : (k : ℕ) → f k < 2) where
  pub chip_at_packed : (k : ℕ) → chip_at (packed t f) k ≡ up_to t f k
  chip_at_packed k = ⊎_elim within behind (below_or_not (k / 8) ((t + 7) / 8)) where
    within : k / 8 < (t + 7) / 8 → chip_at (packed t f) k ≡ up_to t f k
    within lt =
        let place : 8 * (k / 8) + k % 8 ≡ k = omega arith in
        rw (get_or_packed t f (k / 8) lt)
        (gather_chip (up_to t f) (up_to_lt t f bit) (8 * (k / 8)) 8 (k % 8) (omega arith) ∙ ap (up_to t f) place)

    behind : (t + 7) / 8 ≤ k / 8 → chip_at (packed t f) k ≡ up_to t f k
    behind le =
        let none = get_or-eq_default (packed t f) 0 {n = k / 8} (rw (length_packed t f) le) in
        rw (none, up_to_behind t f k (omega arith), zero-div)

  pub word_at_packed : (at w : ℕ) → at + w ≤ t → word_at (packed t f) at w ≡ gather f at w
  word_at_packed at w h = gather_same (chip_at (packed t f)) f at at w
      (λ k lt. chip_at_packed (at + k) ∙ up_to_within t f (at + k) (omega arith))

  pub packed_lt : (j : ℕ) → get_or (packed t f) j 0 < 256
  packed_lt j = ⊎_elim within behind (below_or_not j ((t + 7) / 8)) where
    within : j < (t + 7) / 8 → get_or (packed t f) j 0 < 256
    within lt = rw (get_or_packed t f j lt) (gather-lt (up_to t f) (up_to_lt t f bit) (8 * j) 8)

    behind : (t + 7) / 8 ≤ j → get_or (packed t f) j 0 < 256
    behind le = rw (get_or-eq_default (packed t f) 0 {n = j} (rw (length_packed t f) le)) (omega arith)

pub packed_whole : (n : ℕ) (f : ℕ → ℕ) → packed (8 * n) f ≡ tabulate (λ j. gather f (8 * j) 8) n
unfolding packed
packed_whole n f =
    let size : (8 * n + 7) / 8 ≡ n = omega arith in
    rw size (tabulate_same (λ j. gather (up_to (8 * n) f) (8 * j) 8) (λ j. gather f (8 * j) 8) n
    (λ j h. gather_same (up_to (8 * n) f) f (8 * j) (8 * j) 8
    (λ k lt. up_to_within (8 * n) f (8 * j + k) (omega arith))))

pub chip_at_middle : (pre t post : List ℕ) (k : ℕ) → k < 8 * length t
    → chip_at (pre ++ (t ++ post)) (8 * length pre + k) ≡ chip_at t k
chip_at_middle pre t post k h =
    let byte : (8 * length pre + k) / 8 ≡ length pre + k / 8 = omega arith in
    let bit : (8 * length pre + k) % 8 ≡ k % 8 = omega arith in
    rw (byte, bit, get_or-append-add pre (t ++ post) (k / 8) 0, get_or-append t post 0 (k / 8) (omega arith))
