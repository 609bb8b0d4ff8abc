-- What the chip reader's rules say, one case at a time (document 01, "Answer numbers": 10 when made, then 1, 6).
--     step_of_closed      a closed reader stays as it is
--     step_of_word        else a step is what the word at its place answers
--     Open s p           the reader is not closed, and its place lies among the chips
--     start_of_open       so it is when it is made, unless it is closed
--     step_of_open        and after each word: then no word is refused with 10
-- Assumes nothing.
use mathlib.Core.Path.{◌≡◌, refl}
use mathlib.Core.Bool.{Bool, true, false, cond}
use mathlib.Core.List.{List}
use Prim.Native.Nat.{ℕ, ◌+◌}
use lib.Dec.{ltb}
use borrow.Author.Tests.{ltb-false}
use Rattle.std.specs.Prelude.{Option, Some, None, Result, Err}
use Rattle.answers.specs.declared.Refusal.{Refusal}
use Rattle.answers.specs.declared.Refusal.TheVariants.{Short, OutOfRange}
use Rattle.chips.proofs.RangeLaws.{InBuffer, in_range_inside, in_range_true}
use Rattle.chips.specs.Chips.{word_at, chip_count, in_range}
use Rattle.ground.proofs.CaseLaws.{zero_not_one}
use Rattle.line.specs.Codes.{LineCode, word_value}
use Rattle.line.specs.OneWord.{word_for, word_read}
use Rattle.chipreader.specs.declared.Place.{Place}
use Rattle.chipreader.specs.Steps.{start_of, is_closed, place_after, step_of}

module _ (κ : LineCode) (s : List ℕ) (p : Place) where
  pub step_of_closed : is_closed p.answer ≡ true → p ≡ step_of κ s p
  unfolding step_of
  step_of_closed h = rw h

  pub step_of_word : {w : Result ℕ Refusal} → is_closed p.answer ≡ false → w ≡ word_read κ s p.at
      → place_after κ p.at w ≡ step_of κ s p
  unfolding step_of
  step_of_word h e = rw (h, ← e)

pub record Open (s : List ℕ) (p : Place) : Type 0 where
  pub within : InBuffer s p.at
  pub ready : is_closed p.answer ≡ false

-- what the test of the start leaves
started : (s : List ℕ) (at : ℕ) (t : Bool) → in_range s at ≡ t
    → let start : Place = record { at = at; answer = None } in
    let p : Place = cond t start (record { at = 0; answer = Some (Err OutOfRange) }) in
    is_closed p.answer ≡ false → Open s p
started s at true e h = record { within = in_range_true e; ready = refl }
started s at false e h = absurd (zero_not_one (cc))

pub start_of_open : (s : List ℕ) (at : ℕ) → is_closed (start_of s at).answer ≡ false → Open s (start_of s at)
unfolding start_of
start_of_open s at h = started s at (in_range s at) refl h

-- what stands behind the test that refuses with 10
place_after_open : {s : List ℕ} {at : ℕ} (κ : LineCode) (t : Bool) (v : Option ℕ) → InBuffer s at
    → ltb (chip_count s) (at + κ.chips) ≡ t → Open s (place_after κ at (cond t (Err Short) (word_for v)))
place_after_open κ true v b e = record { within = b; ready = refl }
place_after_open {s} {at} κ false (Some x) b e =
    record {
      within = record { small = b.small; inside = ltb-false (chip_count s) (at + κ.chips) e };
      ready = refl;
    }
place_after_open κ false None b e = record { within = b; ready = refl }

pub step_of_open : (κ : LineCode) (s : List ℕ) (p : Place) → Open s p → Open s (step_of κ s p)
unfolding step_of word_read
step_of_open κ s p o =
    let v : Option ℕ = word_value κ (word_at s p.at κ.chips) in
    rw (o.ready, in_range_inside o.within)
    (place_after_open κ (ltb (chip_count s) (p.at + κ.chips)) v o.within refl)
