-- One turn of the division: two bytes of the word go into a remainder.
--     in_two          what the code makes of a remainder and two bytes is the remainder after them
--     Turning         what holds before each turn: an even number of bytes v is left, and m divided on with them is the
--                     remainder of the word w
--     turning_even, turning_odd    a word of odd length begins with its first byte, as if a zero byte stood before it
--     turning_next    two bytes more
--     turning_end     where none is left, m is the word's remainder
-- Assumes nothing.
use mathlib.Core.Path.{◌≡◌, refl, sym, ap, ap₂, ◌∙◌}
use mathlib.Core.List.{List, [], ◌∷◌, ◌++◌}
use Prim.Native.Nat.{ℕ, ◌-◌, ◌/◌, ◌%◌, ◌≤◌, ◌<◌}
use native.Mathlib.Omega.{arith}
use lib.Bits.{bit_xor}
use lib.ListN.{length, get_or, take, drop, replicate, length-drop}
use lib.Seq.{take_all}
use Rattle.ground.specs.Sums.{xors}
use Rattle.codewords.specs.CheckBytes.{generator, rem_of, checks_of}
use Rattle.codewords.proofs.StepLaws.{two_steps, zero_first, rem_of-append}
use Rattle.correction.specs.declared.division.Remainder.{Remainder}
use Rattle.correction.specs.Inner.{bytes_of}

top_byte : (u : ℕ) → u < 18446744073709551616 → u / 72057594037927936 ≡ u / 4294967296 / 16777216 % 256
top_byte u h = omega arith

next_byte : (u : ℕ) → u / 281474976710656 % 256 ≡ u / 4294967296 / 65536 % 256
next_byte u = omega arith

pub in_two : (m : Remainder) (x y : ℕ) {u v w : List ℕ} → m.a < 18446744073709551616
    → u ≡ drop 2 (bytes_of m) ++ (0 ∷ 0 ∷ [])
    → v ≡ checks_of (bit_xor (m.a / 72057594037927936) x ∷ bit_xor (m.a / 281474976710656 % 256) y ∷ [])
    → w ≡ xors u v → w ≡ rem_of generator (bytes_of m) (x ∷ y ∷ [])
in_two m x y h eu ev e =
    e ∙ ap₂ xors eu
    (ev ∙ ap₂ (λ (a b : ℕ). checks_of (bit_xor a x ∷ bit_xor b y ∷ [])) (top_byte m.a h) (next_byte m.a))
    ∙ sym (two_steps _ _ x y (drop 2 (bytes_of m)) refl)

-- ---- the whole word

pub record Turning (w : List ℕ) (m : Remainder) (v : List ℕ) : Type 0 where
  pub pairs : length v % 2 ≡ 0
  pub made : rem_of generator (bytes_of m) v ≡ checks_of w

pub turning_even : (w : List ℕ) → (length w % 2 ≡ 1 → ⊥) → Turning w (record { a = 0; b = 0; c = 0; d = 0 }) w
unfolding checks_of
turning_even w even = record { pairs = omega arith; made = refl }

first_in : (w : List ℕ) {m : List ℕ} → 0 < length w
    → m ≡ rem_of generator (replicate 32 0) (0 ∷ get_or w 0 0 ∷ []) → rem_of generator m (drop 1 w) ≡ checks_of w
unfolding checks_of
first_in [] some e = absurd (omega arith)
first_in (x ∷ w) some e =
    ap (λ (l : List ℕ). rem_of generator l w) e ∙ sym (rem_of-append (replicate 32 0) (0 ∷ x ∷ []) w)
    ∙ zero_first (x ∷ w)

pub turning_odd : (w : List ℕ) {m : Remainder} → length w % 2 ≡ 1
    → bytes_of m ≡ rem_of generator (replicate 32 0) (0 ∷ get_or w 0 0 ∷ [])
    → Turning w m (take (length w - 1) (drop 1 w))
turning_odd w odd e =
    let all = take_all (length w - 1) (drop 1 w) (omega (arith, length-drop 1 w)) in
    record {
      pairs = rw (all, length-drop 1 w) (omega arith);
      made = rw all (first_in w (omega arith) e);
    }

two_in : (m v : List ℕ) {n : List ℕ} → 2 ≤ length v → n ≡ rem_of generator m (get_or v 0 0 ∷ get_or v 1 0 ∷ [])
    → rem_of generator n (drop 2 v) ≡ rem_of generator m v
two_in m [] two e = absurd (omega arith)
two_in m (x ∷ []) two e = absurd (omega arith)
two_in m (x ∷ y ∷ v) two e =
    ap (λ (l : List ℕ). rem_of generator l v) e ∙ sym (rem_of-append m (x ∷ y ∷ []) v)

pub turning_next : (w v : List ℕ) {m n : Remainder} → Turning w m v → 2 ≤ length v
    → bytes_of n ≡ rem_of generator (bytes_of m) (get_or v 0 0 ∷ get_or v 1 0 ∷ [])
    → Turning w n (take (length v - 2) (drop 2 v))
turning_next w v t two e =
    let all = take_all (length v - 2) (drop 2 v) (omega (arith, length-drop 2 v)) in
    let pairs : length v % 2 ≡ 0 = t.pairs in
    record {
      pairs = rw (all, length-drop 2 v) (omega arith);
      made = rw all (two_in _ v two e) ∙ t.made;
    }

none_left : (v : List ℕ) → length v < 2 → length v % 2 ≡ 0 → v ≡ []
none_left [] few pairs = refl
none_left (x ∷ []) few pairs = absurd (omega arith)
none_left (x ∷ y ∷ v) few pairs = absurd (omega arith)

pub turning_end : (w v : List ℕ) {m : Remainder} → Turning w m v → length v < 2 → bytes_of m ≡ checks_of w
unfolding rem_of
turning_end w v {m} t few =
    sym (ap (rem_of generator (bytes_of m)) (none_left v few t.pairs)) ∙ t.made
