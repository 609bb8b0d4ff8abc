-- Damage of a frame in chips (document 02, 13/14, and what it means on the air): s is what was sent, t what came.
--     Flipped s t p            chip p came inverted
--     ChipBurst w from end s t at least one chip came inverted; all that did stand from place `from` on and before
--                              `end`, within w consecutive chips
--     NeverSent k w skip       take any frame of kind k in chips, and such damage of its chips behind the sync chips
--                              and the next `skip` ones: no content at all, sent as kind k, has its chips there
--     word_chips κ y            the chips of the word y, first chip first
--     EvenlyApart κ            two code words differ in an even number of chips: so a code word with an odd number of
--                              inverted chips is none
--     chips_anywhere k          within so many consecutive chips of a frame of kind k that is so, wherever they lie: 0
--                              for mode C with format B, where nothing is promised if the length byte is among them
--     ChipsSeen                so it is, exactly; in mode C with format B within 16 chips behind those of the length
--                              byte, exactly; and three-of-six and Manchester have such words
-- SentAt is what demand 2 measures receiving by: so nothing is received there as kind k. What stands around the frame
-- is t's own: s may have anything there.
use Rattle.std.specs.Prelude.{List, ◌↔◌, ◌≡◌, ℕ, ◌+◌, ◌-◌, ◌/◌, ◌%◌, ◌≤◌, ◌<◌, ◌^◌, length}
use Rattle.ground.specs.Apart.{apart}
use Rattle.chips.specs.Chips.{chip_at}
use Rattle.chips.specs.Packing.{tabulate}
use Rattle.line.specs.declared.codes.Code.TheVariants.{ThreeOfSix, Manchester}
use Rattle.line.specs.Codes.{LineCode, code_of}
use Rattle.sync.specs.declared.Kind.{Kind}
use Rattle.sync.specs.declared.Kind.TheVariants.{TWithA, CWithA, CWithB, ManchesterWithA}
use Rattle.sync.specs.Kinds.{lead_of}
use Rattle.radio.specs.Sending.{sent_chips, SentAt}

abbrev pub Flipped : List ℕ → List ℕ → ℕ → Type 0
Flipped s t p = chip_at t p ≡ chip_at s p → ⊥

pub record ChipBurst (w from end : ℕ) (s t : List ℕ) : Type 0 where
  pub place : ℕ
  pub differs : Flipped s t place
  pub first : ℕ
  pub within : (p : ℕ) → Flipped s t p → (first ≤ p) × (p < first + w)
  pub inside : (p : ℕ) → Flipped s t p → (from ≤ p) × (p < end)

abbrev pub NeverSent : Kind → ℕ → ℕ → Type 0
NeverSent k w skip =
    (s t : List ℕ) (place : ℕ) (c : List ℕ) → SentAt k s place c
    → ChipBurst w (place + lead_of k + skip) (place + sent_chips k (length c)) s t
    → (e : List ℕ) → SentAt k t place e → ⊥

abbrev pub word_chips : LineCode → ℕ → List ℕ
word_chips κ y = tabulate (λ i. y / 2 ^ (κ.chips - 1 - i) % 2) κ.chips

abbrev pub EvenlyApart : LineCode → Type 0
EvenlyApart κ =
    (x y : ℕ) → x < 2 ^ κ.bits → y < 2 ^ κ.bits
    → apart (word_chips κ (κ.word_of x)) (word_chips κ (κ.word_of y)) % 2 ≡ 0

abbrev pub chips_anywhere : Kind → ℕ
chips_anywhere TWithA = 22
chips_anywhere CWithA = 16
chips_anywhere CWithB = 0
chips_anywhere ManchesterWithA = 33

pub record ChipsSeen : Type 0 where
  pub anywhere : (k : Kind) (w : ℕ) → NeverSent k w 0 ↔ (w ≤ chips_anywhere k)
  pub behind_the_length : (w : ℕ) → NeverSent CWithB w 8 ↔ (w ≤ 16)
  pub three_of_six_words : EvenlyApart (code_of ThreeOfSix)
  pub manchester_words : EvenlyApart (code_of Manchester)
