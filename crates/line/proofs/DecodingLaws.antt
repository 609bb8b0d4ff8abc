-- What the decoded words are, word by word (specs/Decoding), over every lawful line code.
--     number_in_lt                what a word stands for fits its bits
--     gather-decoded_chip         the bits of word k are what it stands for
--     gather-decoded_chip-suc     the number of the first k words, and word k behind it
--     value_at_shift              the words from word a on
use mathlib.Core.Path.{◌≡◌, refl, ap, sym, ◌∙◌}
use mathlib.Core.List.{List}
use Prim.Native.Nat.{ℕ, ◌+◌, ◌*◌, ◌^◌, ◌<◌}
use native.Mathlib.Nat.{add-mul, add_assoc, zero-add}
use lib.Pow.{pow_pos}
use Rattle.std.specs.Prelude.{Option, Some, None}
use Rattle.chips.proofs.GatherLaws.{gather-add}
use Rattle.chips.proofs.PackingLaws.{gather_spread}
use Rattle.chips.specs.Chips.{gather, word_at}
use Rattle.line.proofs.CodeLaws.{word_value_is}
use Rattle.line.proofs.DigitLaws.{add_one-mul}
use Rattle.line.specs.Codes.{LineCode, word_value}
use Rattle.line.specs.Decoding.{value_at, number_in, decoded_chip}

module _ (κ : LineCode) (s : List ℕ) (at : ℕ) where
  pub number_in_lt : (k : ℕ) → number_in (value_at κ s at k) < 2 ^ κ.bits
  number_in_lt k = by (value_at κ s at k) refl where
    by : (v : Option ℕ) → value_at κ s at k ≡ v → number_in v < 2 ^ κ.bits
    by (Some x) e = (word_value_is κ (word_at s (at + k * κ.chips) κ.chips) x e).0
    by None e = pow_pos κ.bits

  pub gather-decoded_chip : (k : ℕ) → gather (decoded_chip κ s at) (k * κ.bits) κ.bits ≡ number_in (value_at κ s at k)
  gather-decoded_chip k = gather_spread (λ i. number_in (value_at κ s at i)) κ.bits k (number_in_lt k)

  pub gather-decoded_chip-suc : (k v : ℕ) → value_at κ s at k ≡ Some v
      → gather (decoded_chip κ s at) 0 (k * κ.bits) * 2 ^ κ.bits + v
      ≡ gather (decoded_chip κ s at) 0 ((k + 1) * κ.bits)
  gather-decoded_chip-suc k v e =
      let word : gather (decoded_chip κ s at) (0 + k * κ.bits) κ.bits ≡ v
      = rw zero-add (gather-decoded_chip k ∙ ap number_in e) in
      sym (rw (add_one-mul k κ.bits) (gather-add (decoded_chip κ s at) 0 (k * κ.bits) κ.bits ∙ rw word))

  pub value_at_shift : (a k : ℕ) → value_at κ s (at + a * κ.chips) k ≡ value_at κ s at (a + k)
  value_at_shift a k =
      let place : at + a * κ.chips + k * κ.chips ≡ at + (a + k) * κ.chips = rw (add-mul, add_assoc) in
      ap (λ (p : ℕ). word_value κ (word_at s p κ.chips)) place
