-- The tail behind a sync word (specs/Tails), case by case.
--     tail_of_outside           the buffer is too long, or the place lies behind it
--     tail_of_there             at least 32 chips are left from the sync word on
--     lead_of-le                no kind has more than 32 sync chips
--     tail_of_begun             what a tail that begins a frame says (BegunBy)
--     begins_there             where a frame begins, its sync chips are all there
--     kind_for_unknown          a tail that begins like mode C's and is none of them
--     TailFits kind t          the tails of a kind; kind_for_fits, fits-kind_for: exactly these tell it
use mathlib.Core.Bool.{false}
use mathlib.Core.Path.{◌≡◌}
use mathlib.Core.List.{List}
use Prim.Native.Nat.{ℕ, ◌+◌, ◌/◌, ◌≤◌}
use native.Mathlib.Omega.{arith}
use borrow.Author.Tests.{le-ltb, ltb-false, eqb-true, eqb-false, eq-eqb, ne_eqb}
use lib.Dec.{ltb, eqb}
use lib.ListN.{length}
use Rattle.ground.proofs.CaseLaws.{by_test, zero_not_one}
use Rattle.std.specs.Prelude.{Result, Ok, Err}
use Rattle.answers.specs.declared.Refusal.{Refusal}
use Rattle.answers.specs.declared.Refusal.TheVariants.{UnknownTail, OutOfRange}
use Rattle.chips.specs.Chips.{word_at, chip_count, room_limit, in_range}
use Rattle.chips.proofs.RangeLaws.{InBuffer, in_range_inside, in_range_true}
use Rattle.sync.specs.Tails.{tail_of, kind_for}
use Rattle.sync.specs.declared.Kind.{Kind}
use Rattle.sync.specs.declared.Kind.TheVariants.{TWithA, CWithA, CWithB, ManchesterWithA}
use Rattle.sync.specs.Kinds.{lead_of}

module _ (s : List ℕ) (k : ℕ) where
  pub tail_of_outside : in_range s k ≡ false → tail_of s k ≡ Err OutOfRange
  unfolding tail_of
  tail_of_outside e = rw e

  pub tail_of_there : length s ≤ room_limit → k + 32 ≤ chip_count s → tail_of s k ≡ kind_for k (word_at s (k + 16) 16)
  unfolding tail_of
  tail_of_there h l =
      let b : InBuffer s k = record { small = h; inside = omega arith } in
      rw (in_range_inside b, le-ltb (chip_count s) (k + 32) l)

pub lead_of-le : (kind : Kind) → lead_of kind ≤ 32
lead_of-le TWithA = omega arith
lead_of-le CWithA = omega arith
lead_of-le CWithB = omega arith
lead_of-le ManchesterWithA = omega arith

refused_begins : {r : Refusal} {kind : Kind} → Result.Err r ≡ Ok kind → ⊥
refused_begins e = zero_not_one (cc)

-- a tail that begins a frame: the buffer is not too long, the tail is there, and its sixteen chips tell the kind
pub record BegunBy (s : List ℕ) (k : ℕ) (kind : Kind) : Type 0 where
  pub small : length s ≤ room_limit
  pub there : k + 32 ≤ chip_count s
  pub told : kind_for k (word_at s (k + 16) 16) ≡ Ok kind

pub tail_of_begun : (s : List ℕ) (k : ℕ) (kind : Kind) → tail_of s k ≡ Ok kind → BegunBy s k kind
unfolding tail_of
tail_of_begun s k kind e =
    by_test (in_range s k) (λ d.
    let b : InBuffer s k = in_range_true d in
    by_test (ltb (chip_count s) (k + 32)) (λ f. absurd (refused_begins (rw (d, f) at e)))
    (λ f. record { small = b.small; there = ltb-false (chip_count s) (k + 32) f; told = rw (d, f) at e }))
    (λ d. absurd (refused_begins (rw d at e)))

-- so the frame's first chip is not behind the buffer
pub begins_there : (s : List ℕ) (k : ℕ) (kind : Kind) → tail_of s k ≡ Ok kind
    → (length s ≤ room_limit) × (k + lead_of kind ≤ chip_count s)
begins_there s k kind e =
    let p : BegunBy s k kind = tail_of_begun s k kind e in
    (p.small, omega (arith, p.there, lead_of-le kind))

-- which tails a kind has: mode C its own, mode T every one that does not begin with 010101
abbrev pub TailFits : Kind → ℕ → Type 0
TailFits TWithA t = t / 1024 ≡ 0b010101 → ⊥
TailFits CWithA t = t ≡ 0x54CD
TailFits CWithB t = t ≡ 0x543D
TailFits ManchesterWithA t = ⊥

begins_fits : {i j : Kind} (t : ℕ) → ◌≡◌ {A = Result Kind Refusal} (Ok i) (Ok j) → TailFits i t → TailFits j t
begins_fits {i} {j} t e fits = let same : i ≡ j = cc in rw same at fits

pub kind_for_fits : (k t : ℕ) (kind : Kind) → kind_for k t ≡ Ok kind → TailFits kind t
kind_for_fits k t kind e =
    by_test (eqb t 0x54CD) (λ a. begins_fits {i = CWithA} t (rw a at e) (eqb-true t 0x54CD a))
    (λ a. by_test (eqb t 0x543D) (λ b. begins_fits {i = CWithB} t (rw (a, b) at e) (eqb-true t 0x543D b))
    (λ b. by_test (eqb (t / 1024) 0b010101) (λ c. absurd (refused_begins (rw (a, b, c) at e)))
    (λ c. begins_fits {i = TWithA} t (rw (a, b, c) at e) (eqb-false (t / 1024) 0b010101 c))))

pub kind_for_unknown : (k t : ℕ) → (t ≡ 0x54CD → ⊥) → (t ≡ 0x543D → ⊥) → t / 1024 ≡ 0b010101
    → kind_for k t ≡ Err (UnknownTail k)
kind_for_unknown k t a b e = rw (ne_eqb t 0x54CD a, ne_eqb t 0x543D b, eq-eqb (t / 1024) 0b010101 e)

pub fits-kind_for : (k t : ℕ) (kind : Kind) → TailFits kind t → kind_for k t ≡ Ok kind
fits-kind_for k t CWithA e = rw (eq-eqb t 0x54CD e)
fits-kind_for k t CWithB e = rw e
fits-kind_for k t TWithA e =
    rw (ne_eqb t 0x54CD (λ h. e (rw h)), ne_eqb t 0x543D (λ h. e (rw h)), ne_eqb (t / 1024) 0b010101 e)
fits-kind_for k t ManchesterWithA e = absurd e
