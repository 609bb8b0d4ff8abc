-- Whole bytes of chips as one number, and the words that stand in them (specs/Chips).
--     word_at_lt             a word of w chips is below 2 ^ w
--     word_at_behind         behind the end every chip is 0
--     word_at_byte           the eight chips of the byte at q make that byte
--     word_at_grow           n whole bytes grow by the byte behind them
--     word_at_four           32 chips are four bytes, first byte highest
--     word_at_rest           64 chips of which only the bytes from q on are there, with zeros behind them
--     word_at_halves         64 chips are 32 and 32
--     word_at_end            64 chips of which only n bytes are there
--     word_at_high           the first 32 of 64 chips
--     word_at_window         the w chips that stand r places into m
--     word_at_cut            the w chips at a place: the 64 from its byte on, shifted up to the place and down to w
--     word_at_narrow         the same for at most nine chips, out of the bytes of the first and of the last of them
--     word_at_next           the same for the eight chips of byte k from there on: both of their bytes are k further on
use mathlib.Core.Bool.{Bool, true, false}
use mathlib.Core.Path.{◌≡◌, refl, ap, sym, ◌∙◌}
use mathlib.Core.List.{List, [], ◌∷◌}
use Prim.Native.Nat.{ℕ, zero, suc, ◌+◌, ◌*◌, ◌-◌, ◌/◌, ◌%◌, ◌^◌, ◌≤◌, ◌<◌}
use native.Mathlib.Nat.{zero-div, mod-eq_of_lt}
use native.Mathlib.Omega.{arith}
use borrow.Author.Tests.{ltb-true, ltb-false}
use lib.Dec.{ltb}
use lib.ListN.{length, get_or, get_or-eq_default}
use lib.Pow.{field, shl-shr, shr-shr}
use Rattle.std.proofs.Common.{Fits, w8, w32, w64, take, drop, ◌++◌, replicate, length-drop}
use Rattle.std.proofs.Math.Seq.{take-length}
use Rattle.std.proofs.lemmas.List.{get_or_append_left, get_or-append_right, get_or-drop}
use Rattle.std.specs.Int.{from_be_bytes}
use Rattle.chips.specs.Chips.{gather, word_at, chip_at}
use Rattle.chips.proofs.GatherLaws.{gather-add, gather-lt, gather_within, chip_at-lt}
use Rattle.chips.proofs.PackingLaws.{gather_none, gather_spread}

pub word_at_lt : (s : List ℕ) (at w : ℕ) → word_at s at w < 2 ^ w
word_at_lt s at w = gather-lt (chip_at s) (chip_at-lt s) at w

pub word_at_behind : (s : List ℕ) (at w : ℕ) → 8 * length s ≤ at → word_at s at w ≡ 0
word_at_behind s at w h =
    gather_none (chip_at s) at w (λ k l. rw (get_or-eq_default s 0 {n = (at + k) / 8} (omega arith), zero-div))

pub word_at_byte : (s : List ℕ) (q : ℕ) → get_or s q 0 < 256 → word_at s (8 * q) 8 ≡ get_or s q 0
word_at_byte s q h =
    let place : 8 * q ≡ q * 8 = omega arith in
    rw place (gather_spread (λ i. get_or s i 0) 8 q h)

get_or-zeros : (n k : ℕ) → ◌≡◌ {A = ℕ} (get_or (replicate n 0) k 0) 0
get_or-zeros zero k = refl
get_or-zeros (suc n) zero = refl
get_or-zeros (suc n) (suc k) = get_or-zeros n k

module _ (s : List ℕ) (q : ℕ) where
  pub word_at_grow : (n : ℕ) → get_or s (q + n) 0 < 256
      → word_at s (8 * q) (8 * (n + 1)) ≡ word_at s (8 * q) (8 * n) * 256 + get_or s (q + n) 0
  word_at_grow n h =
      let chips : 8 * (n + 1) ≡ 8 * n + 8 = omega arith in
      let place : 8 * q + 8 * n ≡ 8 * (q + n) = omega arith in
      rw (chips, gather-add (chip_at s) (8 * q) (8 * n) 8, place, word_at_byte s (q + n) h)

  module _ (byte : (k : ℕ) → Fits w8 (get_or s k 0)) where
    pub word_at_four :
        from_be_bytes w32 (get_or s q 0 ∷ get_or s (q + 1) 0 ∷ get_or s (q + 2) 0 ∷ get_or s (q + 3) 0 ∷ [])
        ≡ word_at s (8 * q) 32
    word_at_four =
        let one = word_at_byte s q (omega (arith, byte q)) in
        let two = word_at_grow 1 (omega (arith, byte (q + 1))) in
        let three = word_at_grow 2 (omega (arith, byte (q + 2))) in
        omega (arith, word_at_grow 3 (omega (arith, byte (q + 3))))

    grow : (n : ℕ) → word_at s (8 * q) (8 * (n + 1)) ≡ word_at s (8 * q) (8 * n) * 256 + get_or s (q + n) 0
    grow n = word_at_grow n (omega (arith, byte (q + n)))

    -- bs are the eight bytes from q on
    word_at_eight : (bs : List ℕ) → ((i : ℕ) → get_or bs i 0 ≡ get_or s (q + i) 0)
        → from_be_bytes w64 bs ≡ word_at s (8 * q) 64
    unfolding gather
    word_at_eight bs same =
        let front : word_at s (8 * q) 32
        ≡ ((get_or bs 0 0 * 256 + get_or bs 1 0) * 256 + get_or bs 2 0) * 256 + get_or bs 3 0
        = omega (arith, grow 0, grow 1, grow 2, grow 3, same 0, same 1, same 2, same 3) in
        omega (arith, front, grow 4, grow 5, grow 6, grow 7, same 4, same 5, same 6, same 7)

    -- byte i of those from q on, with zeros behind them
    get_or_rest : (i : ℕ) (zeros : List ℕ) → q ≤ length s → ((k : ℕ) → get_or zeros k 0 ≡ 0)
        → get_or (drop q s ++ drop (length (drop q s)) zeros) i 0 ≡ get_or s (q + i) 0
    get_or_rest i zeros le none = by (ltb i (length (drop q s))) refl where
      rest : List ℕ
      rest = drop q s

      by : (t : Bool) → ltb i (length rest) ≡ t → get_or (rest ++ drop (length rest) zeros) i 0 ≡ get_or s (q + i) 0
      by true e =
          get_or_append_left rest (drop (length rest) zeros) 0 i (ltb-true i (length rest) e) ∙ get_or-drop q s i 0
      by false e =
          let past : length rest ≤ i = ltb-false i (length rest) e in
          let size : length rest ≡ length s - q = length-drop q s in
          get_or-append_right rest (drop (length rest) zeros) (length rest) i 0 refl past
          ∙ (get_or-drop (length rest) zeros (i - length rest) 0
          ∙ (none (length rest + (i - length rest)) ∙ sym (get_or-eq_default s 0 {n = q + i} (omega arith))))

    pub word_at_rest : {ys : List ℕ} → q ≤ length s → ys ≡ take (length s - q) (drop q s)
        → from_be_bytes w64 (ys ++ drop (length (take (length s - q) (drop q s))) (replicate 8 0))
        ≡ word_at s (8 * q) 64
    word_at_rest {ys} le e =
        let whole : take (length s - q) (drop q s) ≡ drop q s = rw length-drop at (take-length (drop q s)) in
        let zeros : List ℕ = replicate 8 0 in
        rw (e, whole) (word_at_eight (drop q s ++ drop (length (drop q s)) zeros)
        (λ i. get_or_rest i zeros le (get_or-zeros 8)))

  pub word_at_halves : word_at s (8 * q) 32 * 4294967296 + word_at s (8 * (q + 4)) 32 ≡ word_at s (8 * q) 64
  word_at_halves =
      let place : 8 * (q + 4) ≡ 8 * q + 32 = omega arith in
      rw place (sym (gather-add (chip_at s) (8 * q) 32 32))

  pub word_at_high : word_at s (8 * q) 64 / 4294967296 ≡ word_at s (8 * q) 32
  word_at_high = omega (arith, word_at_halves, word_at_lt s (8 * (q + 4)) 32)

  module _ (n : ℕ) (le : n ≤ 8) (short : length s ≤ q + n) where
    -- the n bytes that are there, shifted up
    word_at_shl : word_at s (8 * q) 64 ≡ word_at s (8 * q) (8 * n) * 2 ^ (64 - 8 * n)
    word_at_shl =
        let chips : 64 ≡ 8 * n + (64 - 8 * n) = omega arith in
        let none = word_at_behind s (8 * q + 8 * n) (64 - 8 * n) (omega arith) in
        ap (word_at s (8 * q)) chips ∙ gather-add (chip_at s) (8 * q) (8 * n) (64 - 8 * n) ∙ omega arith

    pub word_at_end : word_at s (8 * q) (8 * n) * 2 ^ (64 - 8 * n) % 2 ^ 64 ≡ word_at s (8 * q) 64
    word_at_end = ap (λ (x : ℕ). x % 2 ^ 64) (sym word_at_shl) ∙ mod-eq_of_lt (word_at_lt s (8 * q) 64)

  pub word_at_window : (m r w : ℕ) → r + w ≤ m
      → word_at s (8 * q) m / 2 ^ (m - r - w) % 2 ^ w ≡ word_at s (8 * q + r) w
  word_at_window m r w h =
      let chips : m ≡ r + w + (m - r - w) = omega arith in
      ap (λ (n : ℕ). word_at s (8 * q) n / 2 ^ (m - r - w) % 2 ^ w) chips
      ∙ gather_within (chip_at s) (chip_at-lt s) (8 * q) r w (m - r - w)

module _ (m x r w : ℕ) (h : r + w ≤ m) where
  shl-shr_down : x * 2 ^ r / 2 ^ (m - w) ≡ x / 2 ^ (m - r - w)
  shl-shr_down =
      let down : m - w ≡ r + (m - r - w) = omega arith in
      rw (down, ← shr-shr (x * 2 ^ r) r (m - r - w), shl-shr x r)

  -- shifted up by r of m and down again to w: what is left are the w from place r on
  shl-shr_cut : x * 2 ^ r % 2 ^ m / 2 ^ (m - w) ≡ x / 2 ^ (m - r - w) % 2 ^ w
  shl-shr_cut =
      let whole : m ≡ w + (m - w) = omega arith in
      ap (λ (n : ℕ). x * 2 ^ r % 2 ^ n / 2 ^ (m - w)) whole
      ∙ field (x * 2 ^ r) w (m - w)
      ∙ ap (λ (y : ℕ). y % 2 ^ w) shl-shr_down

pub word_at_cut : (s : List ℕ) (at w : ℕ) → w ≤ 57
    → word_at s (8 * (at / 8)) 64 * 2 ^ (at % 8) % 2 ^ 64 / 2 ^ (64 - w) ≡ word_at s at w
word_at_cut s at w h =
    let place : 8 * (at / 8) + at % 8 ≡ at = omega arith in
    shl-shr_cut 64 (word_at s (8 * (at / 8)) 64) (at % 8) w (omega arith)
    ∙ word_at_window s (at / 8) 64 (at % 8) w (omega arith)
    ∙ ap (λ (n : ℕ). word_at s n w) place

-- a is the byte of chip `at`, b that of the last of the w chips from there on
module _ (s : List ℕ) (at w : ℕ) (some : 1 ≤ w) (few : w ≤ 9) {a b : ℕ}
    (first : (a ≡ get_or s (at / 8) 0) × (a < 256)) (last : (b ≡ get_or s ((at + w - 1) / 8) 0) × (b < 256)) where
  -- they are neighbours
  two_across : 8 < at % 8 + w → (a * 256 + b) / 2 ^ (16 - at % 8 - w) % 2 ^ w ≡ word_at s (8 * (at / 8) + at % 8) w
  two_across far =
      let next : (at + w - 1) / 8 ≡ at / 8 + 1 = omega arith in
      let b-is : b ≡ get_or s (at / 8 + 1) 0 = last.0 ∙ ap (λ (q : ℕ). get_or s q 0) next in
      let one = word_at_byte s (at / 8) (omega arith) in
      let both : a * 256 + b ≡ word_at s (8 * (at / 8)) 16 = omega (arith, word_at_grow s (at / 8) 1 (omega arith)) in
      rw both (word_at_window s (at / 8) 16 (at % 8) w (omega arith))

  -- they are one
  two_within : at % 8 + w ≤ 8
      → (a * 256 + b) / 2 ^ (16 - at % 8 - w) % 2 ^ w ≡ word_at s (8 * (at / 8) + at % 8) w
  two_within near =
      let down : 16 - at % 8 - w ≡ 8 + (8 - at % 8 - w) = omega arith in
      let one = word_at_byte s (at / 8) (omega arith) in
      let high : (a * 256 + b) / 2 ^ 8 ≡ word_at s (8 * (at / 8)) 8 = omega arith in
      rw (down, ← shr-shr (a * 256 + b) 8 (8 - at % 8 - w), high) (word_at_window s (at / 8) 8 (at % 8) w near)

  two_cut : (far : Bool) → ltb 8 (at % 8 + w) ≡ far
      → (a * 256 + b) / 2 ^ (16 - at % 8 - w) % 2 ^ w ≡ word_at s (8 * (at / 8) + at % 8) w
  two_cut true e = two_across (ltb-true 8 (at % 8 + w) e)
  two_cut false e = two_within (ltb-false 8 (at % 8 + w) e)

  pub word_at_narrow : (a * 256 + b) * 2 ^ (at % 8) % 2 ^ 64 % 65536 / 2 ^ (16 - w) ≡ word_at s at w
  word_at_narrow =
      let place : 8 * (at / 8) + at % 8 ≡ at = omega arith in
      let low : (a * 256 + b) * 2 ^ (at % 8) % 2 ^ 64 % 65536 ≡ (a * 256 + b) * 2 ^ (at % 8) % 2 ^ 16 = omega arith in
      ap (λ (n : ℕ). n / 2 ^ (16 - w)) low
      ∙ shl-shr_cut 16 (a * 256 + b) (at % 8) w (omega arith)
      ∙ two_cut (ltb 8 (at % 8 + w)) refl
      ∙ ap (λ (n : ℕ). word_at s n w) place

module _ (s : List ℕ) (at k : ℕ) {a b : ℕ} (high : (a ≡ get_or s (at / 8 + k) 0) × (a < 256))
    (low : (b ≡ get_or s ((at + 7) / 8 + k) 0) × (b < 256)) where
  pub word_at_next : (a * 256 + b) * 2 ^ (at % 8) % 65536 / 256 ≡ word_at s (at + 8 * k) 8
  word_at_next =
      let place : ℕ = at + 8 * k in
      let first : a ≡ get_or s (place / 8) 0 = high.0 ∙ ap (λ (q : ℕ). get_or s q 0) (omega arith) in
      let last : b ≡ get_or s ((place + 8 - 1) / 8) 0 = low.0 ∙ ap (λ (q : ℕ). get_or s q 0) (omega arith) in
      let shift : place % 8 ≡ at % 8 = omega arith in
      let up : ℕ = (a * 256 + b) * 2 ^ (place % 8) in
      let cut : up % 65536 ≡ up % 2 ^ 64 % 65536 = omega arith in
      let read : up % 65536 / 256 ≡ word_at s place 8
      = rw cut (word_at_narrow s place 8 (omega arith) (omega arith) (first, high.1) (last, low.1)) in
      rw shift at read
