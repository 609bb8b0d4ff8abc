-- The first of the decoded bytes does not go by how many are decoded: a frame's length byte is read before its length
-- is known.
--     get_or-decoding-zero    the first of n decoded bytes
--     decoding_head         is the same for every n
use mathlib.Core.List.{List}
use mathlib.Core.Path.{◌≡◌, ◌∙◌, ap, sym}
use Prim.Native.Nat.{ℕ, ◌*◌, ◌<◌}
use lib.ListN.{get_or}
use Rattle.chips.specs.Chips.{gather}
use Rattle.chips.proofs.PackingLaws.{packed_whole, get_or_tabulate}
use Rattle.line.specs.Codes.{LineCode}
use Rattle.line.specs.Decoding.{decoded_chip, decoding}

module _ (κ : LineCode) (s : List ℕ) (start : ℕ) where
  get_or-decoding-zero : (n : ℕ) → 0 < n → get_or (decoding κ s start n) 0 0 ≡ gather (decoded_chip κ s start) 0 8
  unfolding decoding
  get_or-decoding-zero n h =
      ap (λ (l : List ℕ). get_or l 0 0) (packed_whole n (decoded_chip κ s start))
      ∙ get_or_tabulate (λ j. gather (decoded_chip κ s start) (8 * j) 8) n 0 h

  pub decoding_head : (m n : ℕ) → 0 < m → 0 < n → get_or (decoding κ s start m) 0 0 ≡ get_or (decoding κ s start n) 0 0
  decoding_head m n some more = get_or-decoding-zero m some ∙ sym (get_or-decoding-zero n more)
