-- Bytes decoded one by one into a room (the invariant of `line::decoding::fill`), and what follows.
--     byte_read_is, byte_read_bad    what the answer for one byte says of its words
--     Filling             m and unit are the words and the chips of a byte; all words of the first i bytes are code
--                         words, and the i bytes stand in the room, whose rest is as it was
--     filling_start, filling_step, filling_bad, filling_end, filling_length
use mathlib.Core.Path.{◌≡◌, refl, ap, sym, ◌∙◌}
use mathlib.Core.Bool.{Bool, true, false, cond}
use mathlib.Core.List.{List, [], ◌++◌}
use Prim.Native.Nat.{ℕ, ◌+◌, ◌*◌, ◌-◌, ◌/◌, ◌<◌, ◌≤◌}
use native.Mathlib.Nat.{zero-mul, mul_assoc}
use native.Mathlib.Omega.{arith}
use borrow.Author.Tests.{ltb-true, ltb-false}
use lib.Dec.{ltb}
use lib.ListN.{length, drop, set}
use lib.Seq.{drop-length}
use Rattle.std.proofs.lemmas.List.{append-nil}
use Rattle.std.specs.Prelude.{Ok, Err}
use Rattle.chips.proofs.PackingLaws.{gather_same, spread_shift, length-tabulate, packed_whole}
use Rattle.chips.specs.Chips.{gather}
use Rattle.chips.specs.Packing.{tabulate}
use Rattle.ground.proofs.CaseLaws.{zero_not_one}
use Rattle.ground.proofs.FrontLaws.{front_length}
use Rattle.line.proofs.CodeLaws.{Lawful}
use Rattle.line.proofs.CopyLaws.{set_tabulated}
use Rattle.line.proofs.DecodingLaws.{value_at_shift}
use Rattle.line.proofs.DigitLaws.{add_one-mul, mul-add-le}
use Rattle.line.proofs.GoodRunLaws.{good_run-le, good_run_shift, good_run_same, good_run_stays}
use Rattle.line.specs.Codes.{LineCode, words_in}
use Rattle.line.specs.Decoding.{value_at, good_run, number_in, decoded_chip, decoding}
use Rattle.line.specs.Inner.{unit_of, byte_read, AllWords}

-- a run of g words out of m, and the byte x that they would make
run_is : {g m x y : ℕ} (t : Bool) → g ≤ m → ltb g m ≡ t → cond t (Err g) (Ok y) ≡ Ok x
    → (g ≡ m) × (x ≡ y)
run_is true le e h = absurd (zero_not_one (cc))
run_is {g} {m} false le e h = (omega (arith, ltb-false g m e), cc)

run_bad : {g m k : ℕ} (y : ℕ) (t : Bool) → ltb g m ≡ t → cond t (Err g) (Ok y) ≡ Err k
    → (g ≡ k) × (k < m)
run_bad {g} {m} {k} y true e h =
    let same : g ≡ k = cc in
    (same, rw (← same) (ltb-true g m e))
run_bad y false e h = absurd (zero_not_one (cc))

module _ (κ : LineCode) (s : List ℕ) (at : ℕ) where
  pub byte_read_is : {x : ℕ} → byte_read κ s at ≡ Ok x
      → (good_run (value_at κ s at) (8 / κ.bits) ≡ 8 / κ.bits) × (x ≡ gather (decoded_chip κ s at) 0 8)
  unfolding byte_read
  byte_read_is h =
      let m : ℕ = 8 / κ.bits in
      run_is (ltb (good_run (value_at κ s at) m) m) (good_run-le (value_at κ s at) m) refl h

  pub byte_read_bad : {k : ℕ} → byte_read κ s at ≡ Err k
      → (good_run (value_at κ s at) (8 / κ.bits) ≡ k) × (k < 8 / κ.bits)
  unfolding byte_read
  byte_read_bad h =
      let m : ℕ = 8 / κ.bits in
      run_bad (gather (decoded_chip κ s at) 0 8) (ltb (good_run (value_at κ s at) m) m) refl h

-- byte j of what the words from chip `start` on stand for
abbrev pub byte_from : LineCode → List ℕ → ℕ → ℕ → ℕ
byte_from κ s start j = gather (decoded_chip κ s start) (8 * j) 8

pub record Filling (κ : LineCode) (s : List ℕ) (start n m unit i : ℕ) (room was : List ℕ) : Type 0 where
  pub law : Lawful κ
  pub m-eq : m ≡ 8 / κ.bits
  pub unit_eq : unit ≡ unit_of κ
  pub passed : i ≤ n
  pub run : good_run (value_at κ s start) (i * m) ≡ i * m
  pub filled : room ≡ tabulate (byte_from κ s start) i ++ drop i was

pub filling_start : {κ : LineCode} {s : List ℕ} {start n m unit : ℕ} {was : List ℕ}
    → Lawful κ → m ≡ 8 / κ.bits → unit ≡ unit_of κ → Filling κ s start n m unit 0 was was
unfolding good_run tabulate
filling_start law m-eq unit_eq =
    record { law = law; m-eq = m-eq; unit_eq = unit_eq; passed = omega arith; run = rw zero-mul; filled = refl }

module _ {κ : LineCode} {s : List ℕ} {start n m unit i : ℕ} {room was : List ℕ}
    (inv : Filling κ s start n m unit i room was) where
  -- the words of byte i, counted from the start
  value_at_byte : (k : ℕ) → value_at κ s (start + i * unit) k ≡ value_at κ s start (i * m + k)
  value_at_byte k =
      let place : i * unit ≡ i * m * κ.chips = rw (inv.unit_eq, inv.m-eq, mul_assoc) in
      rw place (value_at_shift κ s start (i * m) k)

  good_run_byte : good_run (value_at κ s start) (i * m + m) ≡ i * m + good_run (value_at κ s (start + i * unit)) m
  good_run_byte =
      let same : good_run (value_at κ s (start + i * unit)) m ≡ good_run (λ k. value_at κ s start (i * m + k)) m
      = good_run_same (value_at κ s (start + i * unit)) (λ k. value_at κ s start (i * m + k)) m
      (λ k h. value_at_byte k) in
      good_run_shift (value_at κ s start) (i * m) m inv.run ∙ ap (λ (g : ℕ). i * m + g) (sym same)

  decoded_chip_byte : (k : ℕ) → decoded_chip κ s (start + i * unit) k ≡ decoded_chip κ s start (8 * i + k)
  decoded_chip_byte k =
      let eight : i * m * κ.bits ≡ 8 * i = rw (mul_assoc, inv.m-eq, inv.law.whole) (omega arith) in
      let number : ℕ → ℕ = λ q. number_in (value_at κ s start q) in
      let shift = spread_shift κ.bits number (i * m) k inv.law.bits_pos in
      rw (← eight) (rw (value_at_byte (k / κ.bits)) (sym shift))

  byte_from_byte : gather (decoded_chip κ s (start + i * unit)) 0 8 ≡ byte_from κ s start i
  byte_from_byte =
      gather_same (decoded_chip κ s (start + i * unit)) (decoded_chip κ s start) 0 (8 * i) 8
      (λ k h. let here : 0 + k ≡ k = omega arith in rw here (decoded_chip_byte k))

  pub filling_step : {x : ℕ} → i < n → i < length was → byte_read κ s (start + i * unit) ≡ Ok x
      → Filling κ s start n m unit (i + 1) (set room i x) was
  filling_step h left e =
      let told = byte_read_is κ s (start + i * unit) e in
      let run : good_run (value_at κ s (start + i * unit)) m ≡ m = rw inv.m-eq told.0 in
      record {
        law = inv.law;
        m-eq = inv.m-eq;
        unit_eq = inv.unit_eq;
        passed = omega arith;
        run = rw (add_one-mul i m) (good_run_byte ∙ rw run);
        filled = set_tabulated (byte_from κ s start) was inv.filled (told.1 ∙ byte_from_byte) left;
      }

  pub filling_bad : {k : ℕ} → i < n → byte_read κ s (start + i * unit) ≡ Err k
      → (i * m + k ≡ good_run (value_at κ s start) (words_in κ n)) × (i * m + k < words_in κ n)
  filling_bad {k} h e =
      let told = byte_read_bad κ s (start + i * unit) e in
      let lt : k < m = rw inv.m-eq told.1 in
      let all : n * m ≡ words_in κ n = rw inv.m-eq in
      let inside : i * m + m ≤ n * m = mul-add-le i n m h in
      let rest : i * m + m + (n * m - (i * m + m)) ≡ words_in κ n = rw (← all) (omega arith) in
      let run : good_run (value_at κ s start) (i * m + m) ≡ i * m + k = good_run_byte ∙ rw (inv.m-eq, told.0) in
      let stays = good_run_stays (value_at κ s start) (i * m + k) (i * m + m) (n * m - (i * m + m)) run (omega arith) in
      (sym (rw rest at stays), rw (← all) (omega arith))

  pub filling_end : length was ≤ i → n ≡ length was → AllWords κ s start n × (room ≡ decoding κ s start n)
  unfolding decoding
  filling_end h size =
      let same : i ≡ n = omega (arith, inv.passed) in
      let run : good_run (value_at κ s start) (n * m) ≡ n * m = rw same at inv.run in
      let filled : room ≡ tabulate (byte_from κ s start) n ++ drop n was = rw same at inv.filled in
      let none : drop n was ≡ [] = rw size (drop-length was) in
      (rw inv.m-eq at run, rw (filled, none, append-nil) (sym (packed_whole n (decoded_chip κ s start))))

  pub filling_length : n ≤ length was → length room ≡ length was
  filling_length h =
      rw inv.filled
      (front_length (tabulate (byte_from κ s start) i) was i (length-tabulate _ i) (omega (arith, inv.passed)))
