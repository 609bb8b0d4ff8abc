-- The maker's letters (EN 13757-4:2019, 12.5.5).
--     letters_of-all      the answer where all three parts are letters
--     three_equal         the same three letters are the same letter by letter
--     letters_of_low      numbers with the same 15 low bits have the same letters: the top bit is no part of one
--     Spelled m x y z    x, y, z are letters, and the 15 low bits of m are theirs, five bits each
--     letters_of_three    M has the letters x, y, z exactly then
use mathlib.Core.Path.{◌≡◌, refl, ◌∙◌, sym, ap}
use mathlib.Core.Logic.{◌↔◌}
use mathlib.Core.Bool.{Bool, true, false, cond, ◌&&◌}
use Rattle.std.specs.Prelude.{Option, Some, None}
use Prim.Native.Nat.{ℕ, ◌+◌, ◌*◌, ◌-◌, ◌%◌, ◌≤◌}
use native.Mathlib.Omega.{arith}
use borrow.Author.Tests.{leb-true, le-leb}
use lib.Dec.{leb}
use Rattle.ground.proofs.CaseLaws.{and_left, and_right, zero_not_one}
use Rattle.address.specs.Letters.{first_of, second_of, third_of, is_letter, ascii_of, letters_of}

module _ (m : ℕ) where
  pub letters_of-all :
      is_letter (first_of m) ≡ true → is_letter (second_of m) ≡ true → is_letter (third_of m) ≡ true
      → Some (ascii_of (first_of m), ascii_of (second_of m), ascii_of (third_of m)) ≡ letters_of m
  letters_of-all p q r = rw (p, q, r)

pub letters_of_low : (m k : ℕ) → m % 32768 ≡ k % 32768 → letters_of m ≡ letters_of k
letters_of_low m k e =
    let first : first_of m ≡ first_of k = omega arith in
    let second : second_of m ≡ second_of k = omega arith in
    let third : third_of m ≡ third_of k = omega arith in
    rw (first, second, third)

pub record Spelled (m x y z : ℕ) : Type 0 where
  pub first : (65 ≤ x) × (x ≤ 90)
  pub second : (65 ≤ y) × (y ≤ 90)
  pub third : (65 ≤ z) × (z ≤ 90)
  pub low : m % 32768 ≡ (x - 64) * 1024 + (y - 64) * 32 + (z - 64)

is_letter_bounds : (v : ℕ) → is_letter v ≡ true → (1 ≤ v) × (v ≤ 26)
is_letter_bounds v e = (leb-true 1 v (and_left _ _ e), leb-true v 26 (and_right (leb 1 v) _ e))

is_letter-le : (v : ℕ) → 1 ≤ v → v ≤ 26 → is_letter v ≡ true
is_letter-le v p q = rw (le-leb 1 v p, le-leb v 26 q)

-- the 15 low bits in parts of five
low_parts : (m : ℕ) → m % 32768 ≡ first_of m * 1024 + second_of m * 32 + third_of m
low_parts m = omega arith

cond_three :
    (b : Bool) {u : Option (ℕ × ℕ × ℕ)} {x y z : ℕ} → cond b u None ≡ Some (x, y, z) → (b ≡ true) × (u ≡ Some (x, y, z))
cond_three true e = (refl, e)
cond_three false e = absurd (zero_not_one (cc))

pub three_equal :
    {a b c x y z : ℕ} → ◌≡◌ {A = Option (ℕ × ℕ × ℕ)} (Some (a, b, c)) (Some (x, y, z)) → (a ≡ x) × (b ≡ y) × (c ≡ z)
three_equal {a} {b} {c} {x} {y} {z} e =
    let t : ◌≡◌ {A = ℕ × ℕ × ℕ} (a, b, c) (x, y, z) = cc in
    (ap (λ (t : ℕ × ℕ × ℕ). t.0) t, ap (λ (t : ℕ × ℕ × ℕ). t.1) t, ap (λ (t : ℕ × ℕ × ℕ). t.2) t)

-- each part of m is a letter, and x, y, z are their ASCII bytes
record LetterParts (m x y z : ℕ) : Type 0 where
  first : (1 ≤ first_of m) × (first_of m ≤ 26) × (x ≡ first_of m + 64)
  second : (1 ≤ second_of m) × (second_of m ≤ 26) × (y ≡ second_of m + 64)
  third : (1 ≤ third_of m) × (third_of m ≤ 26) × (z ≡ third_of m + 64)

module _ {m x y z : ℕ} where
  three_parts : letters_of m ≡ Some (x, y, z) → LetterParts m x y z
  three_parts e =
      let given = cond_three (is_letter (first_of m) && (is_letter (second_of m) && is_letter (third_of m))) e in
      let rest = and_right (is_letter (first_of m)) _ given.0 in
      let p = is_letter_bounds (first_of m) (and_left _ _ given.0) in
      let q = is_letter_bounds (second_of m) (and_left _ _ rest) in
      let r = is_letter_bounds (third_of m) (and_right (is_letter (second_of m)) _ rest) in
      let e = three_equal given.1 in
      record { first = (p.0, p.1, sym e.0); second = (q.0, q.1, sym e.1); third = (r.0, r.1, sym e.2) }

  parts_three : LetterParts m x y z → letters_of m ≡ Some (x, y, z)
  parts_three t =
      sym (letters_of-all m
      (is_letter-le (first_of m) t.first.0 t.first.1)
      (is_letter-le (second_of m) t.second.0 t.second.1)
      (is_letter-le (third_of m) t.third.0 t.third.1))
      ∙ rw (t.first.2, t.second.2, t.third.2)

  parts_spelled : LetterParts m x y z → Spelled m x y z
  parts_spelled t =
      record {
        first = (omega arith, omega arith);
        second = (omega arith, omega arith);
        third = (omega arith, omega arith);
        low = omega (arith, low_parts m);
      }

  spelled_parts : Spelled m x y z → LetterParts m x y z
  spelled_parts s =
      record {
        first = (omega arith, omega arith, omega arith);
        second = (omega arith, omega arith, omega arith);
        third = (omega arith, omega arith, omega arith);
      }

pub letters_of_three : (m x y z : ℕ) → letters_of m ≡ Some (x, y, z) ↔ Spelled m x y z
letters_of_three m x y z = (λ e. parts_spelled (three_parts e), λ s. parts_three (spelled_parts s))
