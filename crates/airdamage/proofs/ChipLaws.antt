-- From chips to the frame: inverted chips of a frame that is a frame again would be damage of its bytes that is always
-- seen.
--     bits_chips       the bits of bytes (damage/specs/Damage), counted as the chips of a buffer are
--     Near b q         bits that differ between two frames lie within 16 consecutive bits, or within 17 of which the
--                      first two differ together
--     Narrows κ w      so it is in code κ where all inverted chips lie within w consecutive ones
--     narrows-..       for NRZ and Manchester; three-of-six has ThreeOfSixLaws
-- Assumes nothing.
use mathlib.Core.List.{List, [], ◌∷◌}
use mathlib.Core.Logic.{◌⊎◌, inl}
use mathlib.Core.Path.{◌≡◌, refl, sym, ap, ◌∙◌}
use Prim.Native.Nat.{ℕ, zero, suc, ◌+◌, ◌*◌, ◌-◌, ◌/◌, ◌%◌, ◌≤◌, ◌<◌, ◌^◌}
use native.Mathlib.Nat.{zero-add, zero-div}
use native.Mathlib.Omega.{arith}
use lib.Bits.{bit_xor}
use lib.ListN.{length, get_or}
use Rattle.chips.specs.Chips.{chip_at, word_at}
use Rattle.chips.proofs.GatherLaws.{chip_at-lt}
use Rattle.chips.proofs.PackingLaws.{spread_gather}
use Rattle.line.specs.declared.codes.Code.{Code}
use Rattle.line.specs.declared.codes.Code.TheVariants.{Nrz, Manchester}
use Rattle.line.specs.Codes.{LineCode, code_of, words_in}
use Rattle.line.proofs.CodeLaws.{lawful}
use Rattle.line.proofs.TripLaws.{Holds, div-lt_of-lt-mul, words_in_mul_bits}
use Rattle.damage.specs.Damage.{bits_of}
use Rattle.airdamage.specs.ChipDamage.{Flipped}
use Rattle.airdamage.proofs.WordLaws.{Firm, firm_manchester, word_reach}

-- ---- bits are counted as chips are

pub bits_chips : (s : List ℕ) (p : ℕ) → get_or (bits_of s) p 0 ≡ chip_at s p
unfolding bits_of
bits_chips [] p = sym (rw (zero-div (2 ^ (7 - p % 8))))
bits_chips (b ∷ s) zero = refl
bits_chips (b ∷ s) (suc zero) = refl
bits_chips (b ∷ s) (suc (suc zero)) = refl
bits_chips (b ∷ s) (suc (suc (suc zero))) = refl
bits_chips (b ∷ s) (suc (suc (suc (suc zero)))) = refl
bits_chips (b ∷ s) (suc (suc (suc (suc (suc zero))))) = refl
bits_chips (b ∷ s) (suc (suc (suc (suc (suc (suc zero)))))) = refl
bits_chips (b ∷ s) (suc (suc (suc (suc (suc (suc (suc zero))))))) = refl
bits_chips (b ∷ s) (suc (suc (suc (suc (suc (suc (suc (suc p)))))))) =
    let next : suc (suc (suc (suc (suc (suc (suc (suc p))))))) ≡ 8 + p = omega arith in
    let byte : (8 + p) / 8 ≡ suc (p / 8) = omega arith in
    let place : (8 + p) % 8 ≡ p % 8 = omega arith in
    bits_chips s p ∙ sym (rw (next, byte, place))

-- ---- what inverted chips do to the bits

-- the bits in which two frames differ, as far as both go, lie within w consecutive ones
abbrev pub Differing : List ℕ → List ℕ → ℕ → ℕ → Type 0
Differing b q first w =
    (p : ℕ) → p < 8 * length b → p < 8 * length q → (chip_at q p ≡ chip_at b p → ⊥) → (first ≤ p) × (p < first + w)

-- a bit with an even place, and the next one, differ together or not at all
pub record Together (b q : List ℕ) (p : ℕ) : Type 0 where
  pub even : p % 2 ≡ 0
  pub both :
      suc p < 8 * length b → suc p < 8 * length q
      → bit_xor (chip_at b p) (chip_at q p) ≡ bit_xor (chip_at b (suc p)) (chip_at q (suc p))

abbrev pub Near : List ℕ → List ℕ → Type 0
Near b q =
    ((first : ℕ) × Differing b q first 16) ⊎ ((first : ℕ) × (Differing b q first 17 × Together b q first))

-- all inverted chips lie within w consecutive ones
abbrev pub FlippedIn : List ℕ → List ℕ → ℕ → ℕ → Type 0
FlippedIn s t from w = (p : ℕ) → Flipped s t p → (from ≤ p) × (p < from + w)

abbrev pub Narrows : LineCode → ℕ → Type 0
Narrows κ w =
    (s t : List ℕ) (at : ℕ) (b q : List ℕ) → Holds κ s at b → Holds κ t at q
    → (from : ℕ) → FlippedIn s t from w → Near b q

pub bit_word : (b : List ℕ) (n p : ℕ) → 0 < n → chip_at b p ≡ word_at b (p / n * n) n / 2 ^ (n - 1 - p % n) % 2
bit_word b n p pos =
    sym (rw (zero-add (p / n * n), zero-add p) at (spread_gather (chip_at b) (chip_at-lt b) 0 n p pos))

-- the word in which a bit stands
module _ (code : Code) (p : ℕ) where
  abbrev bits : ℕ
  bits = (code_of code).bits

  word_there : (r : List ℕ) → p < 8 * length r → p / bits < words_in (code_of code) (length r)
  word_there r h =
      let law = lawful code in
      div-lt_of-lt-mul bits p (words_in (code_of code) (length r)) law.bits_pos
      (rw (words_in_mul_bits law (length r)) h)

  same_word :
      (b q : List ℕ) → word_at b (p / bits * bits) bits ≡ word_at q (p / bits * bits) bits → chip_at q p ≡ chip_at b p
  same_word b q same =
      let pos = (lawful code).bits_pos in
      bit_word q bits p pos ∙ ap (λ (x : ℕ). x / 2 ^ (bits - 1 - p % bits) % 2) (sym same) ∙ sym (bit_word b bits p pos)

-- a bit that differs stands in a word that reaches the window at both ends
pub firm_bit :
    (code : Code) {v : ℕ} → Firm (code_of code) v → (s t : List ℕ) (at : ℕ) (b q : List ℕ) → Holds (code_of code) s at b
    → Holds (code_of code) t at q → (from w : ℕ) → FlippedIn s t from w → (p : ℕ) → p < 8 * length b
    → p < 8 * length q → (chip_at q p ≡ chip_at b p → ⊥)
    → let a = at + p / (code_of code).bits * (code_of code).chips in (from < a + v) × (a + 1 < from + w)
firm_bit code firm s t at b q hs ht from w within p in_b in-q differs =
    word_reach firm (lawful code) s t at b q hs ht (p / (code_of code).bits) (word_there code p b in_b)
    (word_there code p q in-q) from w within (λ same. differs (same_word code p b q same))

-- a bit of Manchester is a pair
manchester_differs :
    {w : ℕ} → w ≤ 33 → (s t : List ℕ) (at : ℕ) (b q : List ℕ) → Holds (code_of Manchester) s at b
    → Holds (code_of Manchester) t at q → (from : ℕ) → FlippedIn s t from w → Differing b q ((from - at + 1) / 2) 16
manchester_differs {w} le s t at b q hs ht from within p in_b in-q differs =
    let one : p / 1 ≡ p = omega arith in
    let reach = firm_bit Manchester firm_manchester s t at b q hs ht from w within p in_b in-q differs in
    let there = rw one at reach in
    (omega (arith, there.0), omega (arith, there.1))

pub narrows_manchester : {w : ℕ} → w ≤ 33 → Narrows (code_of Manchester) w
narrows_manchester le s t at b q hs ht from within =
    inl ((from - at + 1) / 2, manchester_differs le s t at b q hs ht from within)

-- without a line code a chip is a bit
pub nrz_chip : (s : List ℕ) (at : ℕ) (b : List ℕ) → Holds (code_of Nrz) s at b → (p : ℕ) → p < 8 * length b
    → chip_at s (at + p) ≡ chip_at b p
nrz_chip s at b holds p h = holds p (omega arith) ∙ sym (bit_word b 8 p (omega arith))

nrz_differs :
    {w : ℕ} → w ≤ 16 → (s t : List ℕ) (at : ℕ) (b q : List ℕ) → Holds (code_of Nrz) s at b
    → Holds (code_of Nrz) t at q → (from : ℕ) → FlippedIn s t from w → Differing b q (from - at) 16
nrz_differs le s t at b q hs ht from within p in_b in-q differs =
    let there = within (at + p)
    (λ same. differs (sym (nrz_chip t at q ht p in-q) ∙ same ∙ nrz_chip s at b hs p in_b)) in
    (omega (arith, there.0), omega (arith, there.1))

pub narrows_nrz : {w : ℕ} → w ≤ 16 → Narrows (code_of Nrz) w
narrows_nrz le s t at b q hs ht from within = inl (from - at, nrz_differs le s t at b q hs ht from within)
