-- What every law of frames needs to know of a format. Only this file goes by A and B: a third would be added here.
--     one-lt_first, zero-lt_later    spans are not empty, and the first one holds more than L
--     first-le, later-le             no byte of a span stands farther from its end than the check update reaches
--     longest-le                     the longest content has a length that fits a byte
--     within_true, true_within       the test `within` and its two bounds
--     allowed-lt                     an allowed length byte fits a byte
--     allowed-length_byte, content_length-length_byte, length_byte-content_length, within-content_length
--                                    L and the content's length determine each other; antt computes all 256 cases
--     frame_size_A, frame_size_B, frame_size_B_long    the sizes as the code works them out
use mathlib.Core.Bool.{Bool, true, false, cond, ◌||◌}
use mathlib.Core.Logic.{◌⊎◌, inl, inr, ⊎_elim}
use mathlib.Core.Path.{◌≡◌, refl}
use Prim.Native.Nat.{ℕ, zero, suc, ◌+◌, ◌-◌, ◌*◌, ◌/◌, ◌≤◌, ◌<◌, min}
use native.Mathlib.Omega.{arith}
use borrow.Author.Tests.{le-leb, leb-true, eqb-true}
use lib.Dec.{T, leb, eqb}
use Rattle.ground.proofs.CaseLaws.{and_left, and_right}
use Rattle.ground.proofs.TableLaws.{all_below, all_below_at}
use Rattle.blocks.specs.Spans.{size_of, cut, spans}
use Rattle.blocks.proofs.TurnLaws.{size_of_turn}
use Rattle.frame.specs.declared.Format.{Format}
use Rattle.frame.specs.declared.Format.TheVariants.{A, B}
use Rattle.frame.specs.Formats.{form_of, within, frame_size}

pub one-lt_first : (f : Format) → 1 < (form_of f).first
one-lt_first A = omega arith
one-lt_first B = omega arith

pub first-le : (f : Format) → (form_of f).first ≤ 126
first-le A = omega arith
first-le B = omega arith

pub zero-lt_later : (f : Format) → 0 < (form_of f).later
zero-lt_later A = omega arith
zero-lt_later B = omega arith

pub later-le : (f : Format) → (form_of f).later ≤ 126
later-le A = omega arith
later-le B = omega arith

pub longest-le : (f : Format) → (form_of f).longest ≤ 255
longest-le A = omega arith
longest-le B = omega arith

pub within_true : (low high x : ℕ) → low ≤ x → x ≤ high → within low high x ≡ true
within_true low high x l h = rw (le-leb low x l, le-leb x high h)

pub true_within : (low high x : ℕ) → within low high x ≡ true → (low ≤ x) × (x ≤ high)
true_within low high x h =
    (leb-true low x (and_left (leb low x) (leb x high) h), leb-true x high (and_right (leb low x) (leb x high) h))

or_true_cases : (a b : Bool) → a || b ≡ true → (a ≡ true) ⊎ (b ≡ true)
or_true_cases true b h = inl refl
or_true_cases false b h = inr h

pub allowed-lt : (f : Format) (l : ℕ) → (form_of f).allowed l ≡ true → l < 256
allowed-lt A l h = omega (arith, true_within 10 255 l h)
allowed-lt B l h =
    ⊎_elim (λ w. omega (arith, true_within 12 127 l w)) (λ w. omega (arith, true_within 130 255 l w))
    (or_true_cases (within 12 127 l) (within 130 255 l) h)

-- where the test p holds, so does q: computed for every byte of either format
abbrev implies : (ℕ → Bool) → (ℕ → Bool) → ℕ → Bool
implies p q n = cond (p n) (q n) true

cond_true : (a b : Bool) → T (cond a b true) → a ≡ true → b ≡ true
cond_true true true t h = refl
cond_true true false t h = absurd t
cond_true false b t h = cc

bytes-implies :
    (p q : Format → ℕ → Bool) → T (all_below (implies (p A) (q A)) 256) → T (all_below (implies (p B) (q B)) 256)
    → (f : Format) (n : ℕ) → n < 256 → p f n ≡ true → q f n ≡ true
bytes-implies p q a b A n h = cond_true (p A n) (q A n) (all_below_at (implies (p A) (q A)) 256 a n h)
bytes-implies p q a b B n h = cond_true (p B n) (q B n) (all_below_at (implies (p B) (q B)) 256 b n h)

abbrev content_fits : Format → ℕ → Bool
content_fits f = within (form_of f).shortest (form_of f).longest

-- from the content's length to L and back
module _ (f : Format) (n : ℕ) (low : (form_of f).shortest ≤ n) (high : n ≤ (form_of f).longest) where
  content_fits_true : content_fits f n ≡ true
  content_fits_true = within_true _ _ n low high

  length-lt : n < 256
  length-lt = omega (arith, longest-le f)

  pub allowed-length_byte : (form_of f).allowed ((form_of f).length_byte n) ≡ true
  allowed-length_byte =
      bytes-implies content_fits (λ f n. (form_of f).allowed ((form_of f).length_byte n)) tt tt f n length-lt
      content_fits_true

  pub content_length-length_byte : (form_of f).content_length ((form_of f).length_byte n) ≡ n
  content_length-length_byte =
      eqb-true _ _ (bytes-implies content_fits (λ f n. eqb ((form_of f).content_length ((form_of f).length_byte n)) n)
      tt tt f n length-lt content_fits_true)

-- from L to the content's length and back
module _ (f : Format) (l : ℕ) (h : (form_of f).allowed l ≡ true) where
  pub length_byte-content_length : (form_of f).length_byte ((form_of f).content_length l) ≡ l
  length_byte-content_length =
      eqb-true _ _ (bytes-implies (λ f. (form_of f).allowed)
      (λ f l. eqb ((form_of f).length_byte ((form_of f).content_length l)) l) tt tt f l (allowed-lt f l h) h)

  pub within-content_length : within (form_of f).shortest (form_of f).longest ((form_of f).content_length l) ≡ true
  within-content_length =
      bytes-implies (λ f. (form_of f).allowed) (λ f l. content_fits f ((form_of f).content_length l)) tt tt f l
      (allowed-lt f l h) h

-- sixteen bytes at a time, two more for each begun sixteen
size_of_sixteens : (steps t : ℕ) → t ≤ steps → size_of (cut steps 16 16 t) ≡ t + 2 * ((t + 15) / 16)
unfolding size_of cut
size_of_sixteens zero t h =
    let e : t ≡ 0 = omega arith in
    rw e
size_of_sixteens (suc steps) zero h = refl
size_of_sixteens (suc steps) (suc t) h = omega (arith, size_of_sixteens steps (suc t - 16) (omega arith))

pub frame_size_A : (n : ℕ) → frame_size A n ≡ n + 3 + 2 * ((n + 6) / 16)
unfolding frame_size
frame_size_A n =
    omega (
      arith,
      size_of_turn {most = 10} {later = 16} {left = n + 1} refl (omega arith) (omega arith) (omega arith),
      size_of_sixteens (n + 1 - min 10 (n + 1)) (n + 1 - min 10 (n + 1)) (omega arith),
    )

-- one span of format B, and what is left
size_of_126 :
    (t : ℕ) → 0 < t → size_of (spans 126 126 t) ≡ min 126 t + 2 + size_of (spans 126 126 (t - min 126 t))
size_of_126 t h = size_of_turn refl (omega arith) (omega arith) h

pub frame_size_B : (n : ℕ) → n < 126 → frame_size B n ≡ n + 3
unfolding frame_size size_of cut
frame_size_B n h =
    let none : n + 1 - min 126 (n + 1) ≡ 0 = omega arith in
    omega (arith, rw none at (size_of_126 (n + 1) (omega arith)))

pub frame_size_B_long : (n : ℕ) → 126 ≤ n → n ≤ 251 → frame_size B n ≡ n + 5
unfolding frame_size size_of cut
frame_size_B_long n low high =
    let rest : n + 1 - min 126 (n + 1) ≡ n - 125 = omega arith in
    let none : n - 125 - min 126 (n - 125) ≡ 0 = omega arith in
    omega (arith, rw rest at (size_of_126 (n + 1) (omega arith)), rw none at (size_of_126 (n - 125) (omega arith)))
