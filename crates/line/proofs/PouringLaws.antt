-- Chips poured into bytes: what holds after j bytes (the invariant of `line::encoding::pour`), and after chips were
-- added.
--     Source f unit      f gives chips, and a byte has 8 to 16 of them
--     Held               the chips from 8 * j on that are at hand: `count` of them, up to the end of the i bytes taken
--                        in, making `held`
--     Pouring            fewer than sixteen are at hand, and the first j bytes are written
--     pouring_start, held_more, held-lt, held_byte, held_rest, pouring_step, pouring_end
use mathlib.Core.Path.{◌≡◌, refl, ap, sym, ◌∙◌}
use mathlib.Core.List.{List, [], ◌++◌}
use Prim.Native.Nat.{ℕ, ◌+◌, ◌*◌, ◌-◌, ◌/◌, ◌%◌, ◌^◌, ◌<◌, ◌≤◌}
use native.Mathlib.Nat.{zero-mul}
use native.Mathlib.Omega.{arith}
use lib.ListN.{length, drop, set}
use lib.Pow.{pow_mono}
use lib.Seq.{drop-length}
use Rattle.std.proofs.lemmas.List.{append-nil}
use Rattle.chips.proofs.GatherLaws.{gather-add, gather-lt, gather_within}
use Rattle.chips.proofs.PackingLaws.{gather_rest}
use Rattle.chips.specs.Chips.{gather}
use Rattle.chips.specs.Packing.{tabulate}
use Rattle.line.proofs.CopyLaws.{set_tabulated}
use Rattle.line.proofs.DigitLaws.{add_one-mul}

pub record Source (f : ℕ → ℕ) (unit : ℕ) : Type 0 where
  pub bit : (k : ℕ) → f k < 2
  pub unit_ge : 8 ≤ unit
  pub unit_le : unit ≤ 16

pub record Held (f : ℕ → ℕ) (unit held count i j : ℕ) : Type 0 where
  pub place : 8 * j + count ≡ i * unit
  pub chips : held ≡ gather f (8 * j) count

-- byte j of the chips f
abbrev pub byte_of : (ℕ → ℕ) → ℕ → ℕ
byte_of f j = gather f (8 * j) 8

pub record Pouring (f : ℕ → ℕ) (size unit held count i j : ℕ) (out was : List ℕ) : Type 0 where
  pub source : Source f unit
  pub at_hand : Held f unit held count i j
  pub few : count < 16
  pub passed : j ≤ size
  pub filled : out ≡ tabulate (byte_of f) j ++ drop j was

held_start : {f : ℕ → ℕ} {unit : ℕ} → Held f unit 0 0 0 0
unfolding gather
held_start = record { place = rw zero-mul; chips = refl }

pub pouring_start : {f : ℕ → ℕ} {size unit : ℕ} {was : List ℕ} → Source f unit → Pouring f size unit 0 0 0 0 was was
unfolding tabulate
pouring_start source =
    record { source = source; at_hand = held_start; few = omega arith; passed = omega arith; filled = refl }

-- the chips of one byte more
pub held_more : {f : ℕ → ℕ} {unit held count i j x : ℕ} → Held f unit held count i j → x ≡ gather f (i * unit) unit
    → Held f unit (held * 2 ^ unit + x) (count + unit) (i + 1) j
held_more {f} {unit} {held} {count} {i} {j} now e =
    record {
      place = rw (add_one-mul i unit) (omega (arith, now.place));
      chips = rw (e, now.chips, ← now.place) (sym (gather-add f (8 * j) count unit));
    }

module _ {f : ℕ → ℕ} {unit held count i j : ℕ} (bit : (k : ℕ) → f k < 2) (now : Held f unit held count i j) where
  pub held-lt : count ≤ 24 → held < 2 ^ 24
  held-lt le = rw now.chips (omega (arith, gather-lt f bit (8 * j) count, pow_mono {i = count} {j = 24} le))

  pub held_byte : 8 ≤ count → held / 2 ^ (count - 8) % 2 ^ 8 ≡ byte_of f j
  held_byte h =
      let all : 0 + 8 + (count - 8) ≡ count = omega arith in
      let here : 8 * j + 0 ≡ 8 * j = omega arith in
      rw now.chips (ap (λ (n : ℕ). gather f (8 * j) n / 2 ^ (count - 8) % 2 ^ 8) (sym all)
      ∙ (gather_within f bit (8 * j) 0 8 (count - 8) ∙ ap (λ (p : ℕ). gather f p 8) here))

  pub held_rest : 8 ≤ count → Held f unit (held % 2 ^ (count - 8)) (count - 8) i (j + 1)
  held_rest h =
      let all : 8 + (count - 8) ≡ count = omega arith in
      let next : 8 * j + 8 ≡ 8 * (j + 1) = omega arith in
      record {
        place = omega (arith, now.place);
        chips = rw now.chips (ap (λ (n : ℕ). gather f (8 * j) n % 2 ^ (count - 8)) (sym all)
            ∙ (gather_rest f bit (8 * j) 8 (count - 8) ∙ ap (λ (p : ℕ). gather f p (count - 8)) next));
      }

module _ {f : ℕ → ℕ} {size unit held count i j : ℕ} {out was : List ℕ}
    (inv : Pouring f size unit held count i j out was) where
  pub pouring_step : {h c n : ℕ} → Held f unit h c n j × ((8 ≤ c) × (c ≤ 23)) → j < size → size ≤ length was
      → Pouring f size unit (h % 2 ^ (c - 8)) (c - 8) n (j + 1) (set out j (h / 2 ^ (c - 8) % 2 ^ 8)) was
  pouring_step ready lt room =
      let ge = ready.1.0 in
      record {
        source = inv.source;
        at_hand = held_rest inv.source.bit ready.0 ge;
        few = omega arith;
        passed = omega arith;
        filled = set_tabulated (byte_of f) was inv.filled (held_byte inv.source.bit ready.0 ge) (omega arith);
      }

  pub pouring_end : size ≤ j → size ≡ length was → out ≡ tabulate (byte_of f) size
  pouring_end h all =
      let last : j ≡ size = omega (arith, inv.passed) in
      let none : drop size was ≡ [] = rw all (drop-length was) in
      (rw last at inv.filled) ∙ rw (none, append-nil)
