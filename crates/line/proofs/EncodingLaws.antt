-- What the encoded chips are, word by word (specs/Encoding), over every lawful line code.
--     gather-encoded_chip        the chips of word k are the code word of the k-th group of bits
--     word_at_group              group k of the byte at i, cut out of that byte
--     gather-encoded_chip-suc    the number of the first k words of the byte at i, and word k behind it
--     sent_chip-lt               a chip sent is 0 or 1
--     gather-sent_chip           the chips sent of the byte at i are those of its code words
--     gather-sent_chip_behind    behind the last byte every chip is 0
use mathlib.Core.Path.{◌≡◌, ap, sym, ◌∙◌}
use mathlib.Core.List.{List}
use Prim.Native.Nat.{ℕ, ◌+◌, ◌*◌, ◌-◌, ◌/◌, ◌%◌, ◌^◌, ◌<◌, ◌≤◌}
use native.Mathlib.Nat.{add-mul, mul_assoc, mul-le-mul_right}
use native.Mathlib.Omega.{arith}
use lib.ListN.{length, get_or}
use Rattle.chips.proofs.GatherLaws.{gather-add, gather-lt, gather_within, chip_at-lt}
use Rattle.chips.proofs.PackingLaws.{gather_spread, gather_same, gather_none, up_to_within, up_to_behind, up_to_lt}
use Rattle.chips.proofs.WindowLaws.{word_at_byte}
use Rattle.chips.specs.Chips.{gather, chip_at, word_at}
use Rattle.line.proofs.CodeLaws.{Lawful}
use Rattle.line.proofs.DigitLaws.{add_one-mul, mul-add-le}
use Rattle.line.specs.Codes.{LineCode, chips_in}
use Rattle.line.specs.Encoding.{encoded_chip}
use Rattle.line.specs.Inner.{unit_of, sent_chip}

pub sent_chip-lt : (κ : LineCode) (s : List ℕ) (k : ℕ) → sent_chip κ s k < 2
sent_chip-lt κ s = up_to_lt (chips_in κ (length s)) (encoded_chip κ s) (λ k. omega arith)

module _ {κ : LineCode} (law : Lawful κ) (s : List ℕ) where
  pub gather-encoded_chip : (k : ℕ)
      → gather (encoded_chip κ s) (k * κ.chips) κ.chips ≡ κ.word_of (word_at s (k * κ.bits) κ.bits)
  gather-encoded_chip k =
      gather_spread (λ i. κ.word_of (word_at s (i * κ.bits) κ.bits)) κ.chips k
      (law.word_lt (word_at s (k * κ.bits) κ.bits) (gather-lt (chip_at s) (chip_at-lt s) (k * κ.bits) κ.bits))

  pub word_at_group : (i k : ℕ) → get_or s i 0 < 256 → k < 8 / κ.bits
      → get_or s i 0 / 2 ^ (8 - κ.bits - k * κ.bits) % 2 ^ κ.bits
      ≡ word_at s ((i * (8 / κ.bits) + k) * κ.bits) κ.bits
  word_at_group i k byte h =
      let rest : ℕ = 8 - κ.bits - k * κ.bits in
      let all : k * κ.bits + κ.bits + (8 - κ.bits - k * κ.bits) ≡ 8
      = omega (arith, rw law.whole at (mul-add-le k (8 / κ.bits) κ.bits h)) in
      let place : 8 * i + k * κ.bits ≡ (i * (8 / κ.bits) + k) * κ.bits
      = rw (add-mul, mul_assoc, law.whole) (omega arith) in
      rw (← word_at_byte s i byte, ← place)
      (ap (λ (n : ℕ). word_at s (8 * i) n / 2 ^ rest % 2 ^ κ.bits) (sym all)
      ∙ gather_within (chip_at s) (chip_at-lt s) (8 * i) (k * κ.bits) κ.bits rest)

  pub gather-encoded_chip-suc : (i k : ℕ) → gather (encoded_chip κ s) (i * unit_of κ) (k * κ.chips) * 2 ^ κ.chips
      + κ.word_of (word_at s ((i * (8 / κ.bits) + k) * κ.bits) κ.bits)
      ≡ gather (encoded_chip κ s) (i * unit_of κ) ((k + 1) * κ.chips)
  gather-encoded_chip-suc i k =
      let place : i * unit_of κ + k * κ.chips ≡ (i * (8 / κ.bits) + k) * κ.chips = rw (add-mul, mul_assoc) in
      sym (rw (add_one-mul k κ.chips)
      (gather-add (encoded_chip κ s) (i * unit_of κ) (k * κ.chips) κ.chips
      ∙ rw (place, gather-encoded_chip (i * (8 / κ.bits) + k))))

  -- all chips of the code words
  all_chips : length s * unit_of κ ≡ chips_in κ (length s)
  all_chips = sym (mul_assoc (length s) (8 / κ.bits) κ.chips)

  pub gather-sent_chip : (i : ℕ) → i < length s
      → gather (sent_chip κ s) (i * unit_of κ) (unit_of κ) ≡ gather (encoded_chip κ s) (i * unit_of κ) (unit_of κ)
  gather-sent_chip i h =
      let at : ℕ = i * unit_of κ in
      gather_same (sent_chip κ s) (encoded_chip κ s) at at (unit_of κ)
      (λ k lt. up_to_within (chips_in κ (length s)) (encoded_chip κ s) (at + k)
      (omega (arith, all_chips, mul-add-le i (length s) (unit_of κ) h)))

  pub gather-sent_chip_behind : (i : ℕ) → length s ≤ i → gather (sent_chip κ s) (i * unit_of κ) (unit_of κ) ≡ 0
  gather-sent_chip_behind i h =
      gather_none (sent_chip κ s) (i * unit_of κ) (unit_of κ)
      (λ k lt. up_to_behind (chips_in κ (length s)) (encoded_chip κ s) (i * unit_of κ + k)
      (omega (arith, all_chips, mul-le-mul_right (unit_of κ) h)))
