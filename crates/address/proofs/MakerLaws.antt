-- What M says (EN 13757-4:2019, 12.5.5; document 02, 2/14): hard or soft, beside letters and without.
--     maker_of_soft, maker_of_hard    soft exactly from 8000h on, hard exactly below: M has 16 bits
--     turned_none                   if turning the bits of k leaves x as it was, k has none
--     letters_turned, reach_turned    M with its top bit turned has the same letters and the other reach
--     maker_of-received              in bytes: the bit is the highest of the second byte of M
-- Assumes nothing.
use mathlib.Core.Path.{◌≡◌, refl, ◌∙◌, sym, ap}
use mathlib.Core.Logic.{◌↔◌}
use mathlib.Core.Bool.{Bool, true, false, cond}
use mathlib.Core.List.{List}
use Prim.Native.Nat.{ℕ, ◌+◌, ◌/◌, ◌%◌, ◌≤◌, ◌<◌}
use native.Mathlib.Omega.{arith}
use borrow.Author.Tests.{eqb-true, eqb-false, eq-eqb, ne_eqb}
use lib.Bits.{bit_xor, xor_shr, xor_mod, xor_zero_r, xor_self}
use lib.Dec.{eqb}
use lib.ListN.{get_or}
use Rattle.ground.specs.Bytes.{Bytes}
use Rattle.ground.proofs.CaseLaws.{by_test, zero_not_one}
use Rattle.ground.proofs.XorLaws.{xor_cancel}
use Rattle.address.specs.Makers.{top_bit, reach_of, maker_of}
use Rattle.address.specs.Names.{two_at}
use Rattle.address.specs.declared.Reach.TheVariants.{Hard, Soft}
use Rattle.address.proofs.LettersLaws.{letters_of_low}

reach_soft : (b : Bool) → cond b Hard Soft ≡ Soft → b ≡ false
reach_soft true e = absurd (zero_not_one (cc))
reach_soft false e = refl

reach_hard : (b : Bool) → cond b Hard Soft ≡ Hard → b ≡ true
reach_hard true e = refl
reach_hard false e = absurd (zero_not_one (cc))

module _ (m : ℕ) (word : m < 65536) where
  pub maker_of_soft : (maker_of m).reach ≡ Soft ↔ 32768 ≤ m
  maker_of_soft = (
    λ e. let some = eqb-false (top_bit m) 0 (reach_soft (eqb (top_bit m) 0) e) in omega arith,
    λ h. rw (ne_eqb (top_bit m) 0 (λ z. omega arith)),
  )

  pub maker_of_hard : (maker_of m).reach ≡ Hard ↔ m < 32768
  maker_of_hard = (
    λ e. let none = eqb-true (top_bit m) 0 (reach_hard (eqb (top_bit m) 0) e) in omega arith,
    λ h. rw (eq-eqb (top_bit m) 0 (omega arith)),
  )

pub turned_none : (x k : ℕ) → bit_xor x k ≡ x → k ≡ 0
turned_none x k e = sym (xor_cancel x k) ∙ ap (bit_xor x) e ∙ xor_self x

low_turned : (m : ℕ) → bit_xor m 0x8000 % 32768 ≡ m % 32768
low_turned m = xor_mod m 0x8000 15 ∙ xor_zero_r (m % 32768)

top_turned_lem : (m : ℕ) → top_bit (bit_xor m 0x8000) ≡ bit_xor (top_bit m) 1
top_turned_lem m = ap (λ (v : ℕ). v % 2) (xor_shr m 0x8000 15) ∙ xor_mod (m / 32768) 1 1

-- one reach, one top bit
reach_top : (m k : ℕ) → reach_of m ≡ reach_of k → top_bit m ≡ top_bit k
reach_top m k e =
    by_test (eqb (top_bit k) 0)
    (λ z. eqb-true (top_bit m) 0 (reach_hard _ (e ∙ rw z)) ∙ sym (eqb-true (top_bit k) 0 z))
    (λ z. omega (arith, eqb-false (top_bit k) 0 z, eqb-false (top_bit m) 0 (reach_soft _ (e ∙ rw z))))

module _ (m : ℕ) where
  pub letters_turned : (maker_of (bit_xor m 0x8000)).spelled ≡ (maker_of m).spelled
  letters_turned = letters_of_low (bit_xor m 0x8000) m (low_turned m)

  pub reach_turned : (maker_of (bit_xor m 0x8000)).reach ≡ (maker_of m).reach → ⊥
  reach_turned e = omega (arith, turned_none (top_bit m) 1 (sym (top_turned_lem m) ∙ reach_top (bit_xor m 0x8000) m e))

pub maker_of-received : (s : List ℕ) → Bytes s → (k : ℕ)
    → (maker_of (two_at s k)).reach ≡ Soft ↔ 128 ≤ get_or s (k + 1) 0
maker_of-received s bytes k =
    let e = maker_of_soft (two_at s k) (omega (arith, bytes k, bytes (k + 1))) in
    (λ soft. omega (arith, bytes k, e.0 soft), λ h. e.1 (omega arith))
