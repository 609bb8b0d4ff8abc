-- One byte joined of its words: what holds after k of them (the invariant of `line::decoding::words_at`), and what
-- follows.
--     Joining            u is the chips of a byte; the first k words are code words, and x is the number that they
--                        make, one behind the other
--     joining_start      before the first word
--     joining_lt         x is always a byte
--     joining_inside     word k lies in the byte's chips
--     joining_value      what word k stands for, cut out of the byte's chips
--     joining_step       one code word more
--     joining_room       and the number is still a byte
--     joining_bad        word k is no code word: the byte's answer
--     joining_end        all words passed: the byte's answer
use mathlib.Core.Path.{◌≡◌, refl, ap, sym, ◌∙◌}
use mathlib.Core.List.{List}
use Prim.Native.Nat.{ℕ, suc, ◌+◌, ◌*◌, ◌-◌, ◌/◌, ◌%◌, ◌^◌, ◌<◌, ◌≤◌}
use native.Mathlib.Nat.{zero-mul, mul-le-mul_right}
use native.Mathlib.Numerals.{add-one}
use native.Mathlib.Omega.{arith}
use borrow.Author.Tests.{lt-ltb, le-ltb}
use lib.Pow.{pow_mono}
use Rattle.std.specs.Prelude.{Option, Some, None, Ok, Err}
use Rattle.chips.proofs.GatherLaws.{gather-lt, gather_within, chip_at-lt}
use Rattle.chips.specs.Chips.{gather, chip_at, word_at}
use Rattle.line.proofs.CodeLaws.{Sizes}
use Rattle.line.proofs.DecodingLaws.{gather-decoded_chip-suc}
use Rattle.line.proofs.DigitLaws.{mul-add-le}
use Rattle.line.proofs.GoodRunLaws.{good_run_good, good_run_bad, good_run_stays}
use Rattle.line.specs.Codes.{LineCode, word_value}
use Rattle.line.specs.Decoding.{value_at, good_run, decoded_chip}
use Rattle.line.specs.Inner.{unit_of, byte_read}

pub record Joining (κ : LineCode) (s : List ℕ) (at b w m u x k : ℕ) : Type 0 where
  pub sizes : Sizes κ b w m
  pub u_eq : u ≡ unit_of κ
  pub passed : k ≤ m
  pub run : good_run (value_at κ s at) k ≡ k
  pub joined : x ≡ gather (decoded_chip κ s at) 0 (k * κ.bits)

pub joining_start : {κ : LineCode} {s : List ℕ} {at b w m u : ℕ} → Sizes κ b w m → u ≡ unit_of κ
    → Joining κ s at b w m u 0 0
unfolding good_run gather
joining_start sizes u_eq =
    record { sizes = sizes; u_eq = u_eq; passed = omega arith; run = refl; joined = rw zero-mul }

module _ {κ : LineCode} {s : List ℕ} {at b w m u x k : ℕ} (inv : Joining κ s at b w m u x k) where
  pub joining_lt : x < 256
  joining_lt =
      let bound : k * κ.bits ≤ m * κ.bits = mul-le-mul_right κ.bits inv.passed in
      let eight : m * κ.bits ≡ 8 = rw inv.sizes.m-eq inv.sizes.law.whole in
      let bits : 2 ^ (k * κ.bits) ≤ 2 ^ 8 = pow_mono {i = k * κ.bits} {j = 8} (omega arith) in
      rw inv.joined (omega (arith, gather-lt (decoded_chip κ s at) (λ i. omega arith) 0 (k * κ.bits)))

  pub joining_inside : k < m → k * w + w ≤ u
  joining_inside h =
      let all : m * w ≡ u = rw (inv.sizes.m-eq, inv.sizes.w-eq, inv.u_eq) in
      omega (arith, mul-add-le k m w h)

  pub joining_value : {v : Option ℕ} {all y : ℕ} → k < m → all ≡ word_at s at u → y ≡ all / 2 ^ (u - w - k * w) % 2 ^ w
      → v ≡ word_value κ y → value_at κ s at k ≡ v
  joining_value {y = y} h fetched cut told =
      let chips : k * w + w + (u - w - k * w) ≡ u = omega (arith, joining_inside h) in
      let word : y ≡ word_at s (at + k * w) w
      = cut ∙ rw fetched (rw chips at (gather_within (chip_at s) (chip_at-lt s) at (k * w) w (u - w - k * w))) in
      sym (told ∙ ap (word_value κ) word ∙ rw inv.sizes.w-eq)

  pub joining_step : {v : ℕ} → k < m → value_at κ s at k ≡ Some v → Joining κ s at b w m u (x * 2 ^ b + v) (k + 1)
  joining_step {v} h e =
      record {
        sizes = inv.sizes;
        u_eq = inv.u_eq;
        passed = omega arith;
        run = rw (add-one k) (good_run_good (value_at κ s at) k v inv.run e);
        joined = rw (inv.sizes.b-eq, inv.joined) (gather-decoded_chip-suc κ s at k v e);
      }

  pub joining_bad : k < m → value_at κ s at k ≡ None → byte_read κ s at ≡ Err k
  unfolding byte_read
  joining_bad h e =
      let whole : suc k + (m - suc k) ≡ 8 / κ.bits = rw (← inv.sizes.m-eq) (omega arith) in
      let at-k : good_run (value_at κ s at) (suc k) ≡ k = good_run_bad (value_at κ s at) k inv.run e in
      let broken : good_run (value_at κ s at) (8 / κ.bits) ≡ k
      = rw whole at (good_run_stays (value_at κ s at) k (suc k) (m - suc k) at-k (omega arith)) in
      rw (broken, lt-ltb k (8 / κ.bits) (rw (← inv.sizes.m-eq) h))

  pub joining_end : m ≤ k → byte_read κ s at ≡ Ok x
  unfolding byte_read
  joining_end h =
      let all : k ≡ 8 / κ.bits = omega (arith, inv.passed, inv.sizes.m-eq) in
      let run : good_run (value_at κ s at) (8 / κ.bits) ≡ 8 / κ.bits = rw all at inv.run in
      let joined : x ≡ gather (decoded_chip κ s at) 0 8 = inv.joined ∙ rw (all, inv.sizes.law.whole) in
      rw (run, le-ltb (8 / κ.bits) (8 / κ.bits) (omega arith)) (ap Ok (sym joined))

pub joining_room : {κ : LineCode} {s : List ℕ} {at b w m u x k v : ℕ} → Joining κ s at b w m u x k
    → k < m → value_at κ s at k ≡ Some v → x * 2 ^ b + v < 256
joining_room inv h e = joining_lt (joining_step inv h e)
