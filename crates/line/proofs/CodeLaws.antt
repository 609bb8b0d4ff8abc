-- What holds of every line code (specs/Codes), and what only a test of each code's words can show.
--     number_for_is        a number found is one of those searched, and the word is its word
--     Lawful κ            what a line code must be for every law that follows: its bits divide a byte, a word has no
--                         fewer chips and at most 8, a byte at most 16, every number's word fits the chips and is told
--                         from all others
--     lawful              each of the three codes is so, by one computed test: the only place that goes by the three
--     Sizes κ b w m       b and w are the bits and the chips of a word of a lawful code, m the words of a byte
--     sizes-le            bounds on them
--     ones-code_words      every three-of-six code word has three ones, by the same test as that they are distinct
--     word_of_injective    two numbers of a lawful code have different words
--     words_in_le, unit_of_ge, chips_in_ge    bounds on the words and chips of n bytes
--     word_value_is, word_value_accepts    a word stands for x exactly when it is the code word of x
use mathlib.Core.Path.{◌≡◌, refl, ap, sym, ◌∙◌}
use mathlib.Core.Bool.{Bool, true, false, cond, ◌&&◌}
use mathlib.Core.Logic.{◌↔◌}
use Prim.Native.Nat.{ℕ, zero, suc, ◌+◌, ◌*◌, ◌/◌, ◌%◌, ◌^◌, ◌<◌, ◌≤◌}
use native.Mathlib.Nat.{mul-le-mul_left, mul_assoc, div-le_self}
use native.Mathlib.Omega.{arith}
use borrow.Author.Tests.{eqb-true}
use lib.Dec.{T, eqb, ltb, eqb→eq, ltb→lt}
use lib.Ieee.Fits.{and_l, and_r}
use lib.ListN.{get_or}
use Rattle.std.proofs.lemmas.Option.{none-some}
use Rattle.std.specs.Prelude.{Option, Some, None}
use Rattle.ground.proofs.TableLaws.{all_below, all_below_at}
use Rattle.line.specs.Codes.{LineCode, code_of, code_words, number_for, word_value, words_in, chips_in}
use Rattle.line.specs.Inner.{unit_of}
use Rattle.line.specs.declared.codes.Code.{Code}
use Rattle.line.specs.declared.codes.Code.TheVariants.{Nrz, ThreeOfSix, Manchester}

-- one number more to search
number_for-suc : (f : ℕ → ℕ) (y n x : ℕ) (t : Bool) → eqb (f n) y ≡ t → cond t (Some n) (number_for f y n) ≡ Some x
    → (number_for f y n ≡ Some x → (x < n) × (f x ≡ y)) → (x < suc n) × (f x ≡ y)
number_for-suc f y n x true e found before =
    let same : n ≡ x = cc in
    (omega arith, rw (← same) (eqb-true (f n) y e))
number_for-suc f y n x false e found before = (omega (arith, (before found).0), (before found).1)

pub number_for_is : (f : ℕ → ℕ) (y n x : ℕ) → number_for f y n ≡ Some x → (x < n) × (f x ≡ y)
unfolding number_for
number_for_is f y zero x h = absurd (none-some x h)
number_for_is f y (suc n) x h = number_for-suc f y n x (eqb (f n) y) refl h (number_for_is f y n x)

pub record Lawful (κ : LineCode) : Type 0 where
  pub bits_pos : 0 < κ.bits
  pub whole : 8 / κ.bits * κ.bits ≡ 8
  pub bits-le : κ.bits ≤ κ.chips
  pub chips-le : κ.chips ≤ 8
  pub unit_le : unit_of κ ≤ 16
  pub word_lt : (x : ℕ) → x < 2 ^ κ.bits → κ.word_of x < 2 ^ κ.chips
  pub back : (x : ℕ) → x < 2 ^ κ.bits → word_value κ (κ.word_of x) ≡ Some x

is_number : Option ℕ → ℕ → Bool
is_number (Some x) k = eqb x k
is_number None k = false

is_number_is : (v : Option ℕ) (k : ℕ) → T (is_number v k) → v ≡ Some k
unfolding is_number
is_number_is (Some x) k t = ap Some (eqb→eq x k t)
is_number_is None k t = absurd t

-- the test of one number: its word fits the chips and stands for nothing else, and has the further property p
right_word : LineCode → (ℕ → Bool) → ℕ → Bool
right_word κ p x = ltb (κ.word_of x) (2 ^ κ.chips) && (is_number (word_value κ (κ.word_of x)) x && p (κ.word_of x))

-- what the test shows
record RightWord (κ : LineCode) (p : ℕ → Bool) (x : ℕ) : Type 0 where
  fits : κ.word_of x < 2 ^ κ.chips
  told : word_value κ (κ.word_of x) ≡ Some x
  has : T (p (κ.word_of x))

right_word_is : (κ : LineCode) (p : ℕ → Bool) (x : ℕ) → T (right_word κ p x) → RightWord κ p x
unfolding right_word
right_word_is κ p x t =
    let y : ℕ = κ.word_of x in
    let own : Bool = is_number (word_value κ y) x in
    let rest : T (own && p y) = and_r (ltb y (2 ^ κ.chips)) (own && p y) t in
    record {
      fits = ltb→lt y (2 ^ κ.chips) (and_l (ltb y (2 ^ κ.chips)) (own && p y) t);
      told = is_number_is (word_value κ y) x (and_l own (p y) rest);
      has = and_r own (p y) rest;
    }

-- how many of the n lowest binary digits of y are ones
unfoldable pub ones : ℕ → ℕ → ℕ
ones zero y = 0
ones (suc n) y = y % 2 + ones n (y / 2)

-- what is asked besides: three ones in a three-of-six word
weighted : Code → ℕ → Bool
weighted Nrz y = true
weighted ThreeOfSix y = eqb (ones 6 y) 3
weighted Manchester y = true

-- the one computed test, over every number of each code
tested : (code : Code) → T (all_below (right_word (code_of code) (weighted code)) (2 ^ (code_of code).bits))
unfolding right_word is_number number_for ones weighted
tested Nrz = tt
tested ThreeOfSix = tt
tested Manchester = tt

tested_at : (code : Code) (x : ℕ) → x < 2 ^ (code_of code).bits → RightWord (code_of code) (weighted code) x
tested_at code x h =
    let right = right_word (code_of code) (weighted code) in
    right_word_is (code_of code) (weighted code) x (all_below_at right (2 ^ (code_of code).bits) (tested code) x h)

-- the bounds on its bits and chips
abbrev Bounded : LineCode → Type 0
Bounded κ =
    ((0 < κ.bits) × (8 / κ.bits * κ.bits ≡ 8)) × ((κ.bits ≤ κ.chips) × ((κ.chips ≤ 8) × (unit_of κ ≤ 16)))

bounded : (code : Code) → Bounded (code_of code)
bounded Nrz = omega arith
bounded ThreeOfSix = omega arith
bounded Manchester = omega arith

pub lawful : (code : Code) → Lawful (code_of code)
lawful code =
    record {
      bits_pos = (bounded code).0.0;
      whole = (bounded code).0.1;
      bits-le = (bounded code).1.0;
      chips-le = (bounded code).1.1.0;
      unit_le = (bounded code).1.1.1;
      word_lt = λ x h. (tested_at code x h).fits;
      back = λ x h. (tested_at code x h).told;
    }

pub record Sizes (κ : LineCode) (b w m : ℕ) : Type 0 where
  pub law : Lawful κ
  pub b-eq : b ≡ κ.bits
  pub w-eq : w ≡ κ.chips
  pub m-eq : m ≡ 8 / κ.bits

pub sizes-le : {κ : LineCode} {b w m : ℕ} → Sizes κ b w m → (b ≤ 8) × (w ≤ 8)
sizes-le z = omega (arith, z.b-eq, z.w-eq, z.law.bits-le, z.law.chips-le)

pub ones-code_words : (x : ℕ) → x < 16 → ones 6 (get_or code_words x 0) ≡ 3
unfolding weighted
ones-code_words x h = eqb→eq (ones 6 (get_or code_words x 0)) 3 (tested_at ThreeOfSix x h).has

pub words_in_le : (κ : LineCode) (n : ℕ) → words_in κ n ≤ n * 8
words_in_le κ n = mul-le-mul_left n (div-le_self 8 κ.bits)

pub word_value_is : (κ : LineCode) (y x : ℕ) → word_value κ y ≡ Some x → (x < 2 ^ κ.bits) × (κ.word_of x ≡ y)
word_value_is κ y x h = number_for_is κ.word_of y (2 ^ κ.bits) x h

module _ {κ : LineCode} (law : Lawful κ) where
  -- n bytes have at least 8 chips each
  pub unit_of_ge : 8 ≤ unit_of κ
  unit_of_ge = rw law.whole at (mul-le-mul_left (8 / κ.bits) law.bits-le)

  pub chips_in_ge : (n : ℕ) → n * 8 ≤ chips_in κ n
  chips_in_ge n = rw mul_assoc (mul-le-mul_left n unit_of_ge)

  pub word_of_injective : (x z : ℕ) → x < 2 ^ κ.bits → z < 2 ^ κ.bits → κ.word_of x ≡ κ.word_of z → x ≡ z
  word_of_injective x z hx hz e =
      let bx : word_value κ (κ.word_of x) ≡ Some x = law.back x hx in
      let bz : word_value κ (κ.word_of z) ≡ Some z = law.back z hz in
      cc (ap (word_value κ) e)

  pub word_value_accepts : (y x : ℕ) → (word_value κ y ≡ Some x) ↔ ((x < 2 ^ κ.bits) × (κ.word_of x ≡ y))
  word_value_accepts y x = (word_value_is κ y x, λ h. ap (word_value κ) (sym h.1) ∙ law.back x h.0)
