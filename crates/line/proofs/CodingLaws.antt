-- The chips of one byte put together word by word: what holds after k words (the invariant of
-- `line::encoding::coded_byte`).
--     Coding              x is the byte at i; c is the number that the chips of its first k words make
--     coding_start, coding_lt, coding_step, coding_room, coding_end
use mathlib.Core.Path.{◌≡◌, sym, ◌∙◌}
use mathlib.Core.List.{List}
use Prim.Native.Nat.{ℕ, ◌+◌, ◌*◌, ◌-◌, ◌/◌, ◌%◌, ◌^◌, ◌<◌, ◌≤◌}
use native.Mathlib.Nat.{zero-mul, mul-le-mul_right}
use native.Mathlib.Omega.{arith}
use lib.ListN.{length, get_or}
use lib.Pow.{pow_mono}
use Rattle.chips.proofs.GatherLaws.{gather-lt}
use Rattle.chips.specs.Chips.{gather, word_at}
use Rattle.line.proofs.CodeLaws.{Sizes}
use Rattle.line.proofs.EncodingLaws.{word_at_group, gather-encoded_chip-suc, gather-sent_chip}
use Rattle.line.specs.Codes.{LineCode}
use Rattle.line.specs.Encoding.{encoded_chip}
use Rattle.line.specs.Inner.{unit_of, sent_chip}

pub record Coding (κ : LineCode) (s : List ℕ) (i b w m x c k : ℕ) : Type 0 where
  pub sizes : Sizes κ b w m
  pub byte : (x ≡ get_or s i 0) × (x < 256)
  pub passed : k ≤ m
  pub coded : c ≡ gather (encoded_chip κ s) (i * unit_of κ) (k * κ.chips)

pub coding_start : {κ : LineCode} {s : List ℕ} {i b w m x : ℕ} → Sizes κ b w m → (x ≡ get_or s i 0) × (x < 256)
    → Coding κ s i b w m x 0 0
unfolding gather
coding_start sizes byte = record { sizes = sizes; byte = byte; passed = omega arith; coded = rw zero-mul }

module _ {κ : LineCode} {s : List ℕ} {i b w m x c k : ℕ} (inv : Coding κ s i b w m x c k) where
  pub coding_lt : c < 65536
  coding_lt =
      let bound : k * κ.chips ≤ unit_of κ = mul-le-mul_right κ.chips (rw inv.sizes.m-eq at inv.passed) in
      let fits : k * κ.chips ≤ 16 = omega (arith, inv.sizes.law.unit_le) in
      let chips : 2 ^ (k * κ.chips) ≤ 2 ^ 16 = pow_mono {i = k * κ.chips} {j = 16} fits in
      rw inv.coded (omega (arith, gather-lt (encoded_chip κ s) (λ q. omega arith) (i * unit_of κ) (k * κ.chips)))

  -- the bits of word k
  coding_group : k < m → x / 2 ^ (8 - b - k * b) % 2 ^ b ≡ word_at s ((i * (8 / κ.bits) + k) * κ.bits) κ.bits
  coding_group h =
      let byte : get_or s i 0 < 256 = omega (arith, inv.byte) in
      rw (inv.byte.0, inv.sizes.b-eq) (word_at_group inv.sizes.law s i k byte (rw inv.sizes.m-eq at h))

  pub coding_step : {y z : ℕ} → k < m → y ≡ x / 2 ^ (8 - b - k * b) % 2 ^ b → z ≡ κ.word_of y
      → Coding κ s i b w m x (c * 2 ^ w + z) (k + 1)
  coding_step h group word =
      let grown = gather-encoded_chip-suc inv.sizes.law s i k in
      record {
        sizes = inv.sizes;
        byte = inv.byte;
        passed = omega arith;
        coded = rw (word, group ∙ coding_group h, inv.sizes.w-eq, inv.coded) grown;
      }

  pub coding_end : i < length s → m ≤ k → c ≡ gather (sent_chip κ s) (i * unit_of κ) (unit_of κ)
  coding_end h all =
      let last : k ≡ 8 / κ.bits = omega (arith, inv.passed, inv.sizes.m-eq) in
      (rw last at inv.coded) ∙ sym (gather-sent_chip inv.sizes.law s i h)

pub coding_room : {κ : LineCode} {s : List ℕ} {i b w m x c k y z : ℕ} → Coding κ s i b w m x c k
    → k < m → y ≡ x / 2 ^ (8 - b - k * b) % 2 ^ b → z ≡ κ.word_of y → c * 2 ^ w + z < 65536
coding_room inv h group word = coding_lt (coding_step inv h group word)
