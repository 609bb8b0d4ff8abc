-- The cases of document 01's refusals, each said of the input alone.
--     OutOfRange s at             10: the chip buffer s is over 1,024 bytes (house), or `at` is above its chip count
--     ChipsEnd s end              1: s has fewer than `end` chips
--     CodeWord κ y                y is the code word of some number
--     FirstNoWord κ s at m i      6: of the m words from chip `at` on word i is none, and all before it are code words
--     NoSyncIn s start t          543Dh stands at none of the t places from `start` on
--     UnknownTail s place         8: the 16 chips behind the sync word at `place` begin with 010101 and are neither
--                                 54CDh nor 543Dh
--     TailIs s place k            they tell the kind k: 54CDh, 543Dh, or first chips that are not 010101
--     Announces f l n             l is the length byte of a content of n bytes, which is neither too short nor too long
--     NotAllowed f l              2: of no content
--     RightBlock ks s i           behind the bytes of span i (from 0) stand the two bytes of their check
--     FirstWrongBlock ks s b      3: block b (from 1) is wrong, and all before it are right
--     BadContent f n              5: n bytes are too few or too many
--     InUse es n b                b is one of the first n entries
--     Spells m x y z              x, y, z are capital letters in ASCII, and the 15 low bits of m are theirs
use Rattle.std.specs.Prelude.{List, [], ◌⊎◌, ◌≡◌, ℕ, ◌+◌, ◌-◌, ◌*◌, ◌^◌, ◌%◌, ◌≤◌, ◌<◌, length, get_or, take, drop}
use Rattle.chips.specs.Chips.{word_at, chip_count}
use Rattle.line.specs.Codes.{LineCode}
use Rattle.sync.specs.declared.Kind.{Kind}
use Rattle.blocks.specs.Spans.{sealed, size_of}
use Rattle.frame.specs.declared.Format.{Format}
use Rattle.frame.specs.Formats.{form_of}

abbrev pub OutOfRange : List ℕ → ℕ → Type 0
OutOfRange s at = (1024 < length s) ⊎ (chip_count s < at)

abbrev pub ChipsEnd : List ℕ → ℕ → Type 0
ChipsEnd s end = chip_count s < end

abbrev pub CodeWord : LineCode → ℕ → Type 0
CodeWord κ y = (x : ℕ) × ((x < 2 ^ κ.bits) × (κ.word_of x ≡ y))

pub record FirstNoWord (κ : LineCode) (s : List ℕ) (at m i : ℕ) : Type 0 where
  pub among : i < m
  pub none : CodeWord κ (word_at s (at + i * κ.chips) κ.chips) → ⊥
  pub before : (j : ℕ) → j < i → CodeWord κ (word_at s (at + j * κ.chips) κ.chips)

abbrev pub NoSyncIn : List ℕ → ℕ → ℕ → Type 0
NoSyncIn s start t = (i : ℕ) → i < t → word_at s (start + i) 16 ≡ 0x543D → ⊥

pub record UnknownTail (s : List ℕ) (place : ℕ) : Type 0 where
  pub begins : word_at s (place + 16) 6 ≡ 0b010101
  pub not_a : word_at s (place + 16) 16 ≡ 0x54CD → ⊥
  pub not_b : word_at s (place + 16) 16 ≡ 0x543D → ⊥

abbrev pub TailIs : List ℕ → ℕ → Kind → Type 0
TailIs s place Kind.TWithA = word_at s (place + 16) 6 ≡ 0b010101 → ⊥
TailIs s place Kind.CWithA = word_at s (place + 16) 16 ≡ 0x54CD
TailIs s place Kind.CWithB = word_at s (place + 16) 16 ≡ 0x543D
TailIs s place Kind.ManchesterWithA = ⊥

pub record Announces (f : Format) (l n : ℕ) : Type 0 where
  pub low : (form_of f).shortest ≤ n
  pub high : n ≤ (form_of f).longest
  pub byte : (form_of f).length_byte n ≡ l

abbrev pub NotAllowed : Format → ℕ → Type 0
NotAllowed f l = (n : ℕ) → Announces f l n → ⊥

abbrev pub RightBlock : List ℕ → List ℕ → ℕ → Type 0
RightBlock ks s i =
    let k = get_or ks i 0 in
    let block = drop (size_of (take i ks)) s in
    take (k + 2) block ≡ sealed (take k block)

pub record FirstWrongBlock (ks s : List ℕ) (b : ℕ) : Type 0 where
  pub one : 1 ≤ b
  pub among : b ≤ length ks
  pub wrong : RightBlock ks s (b - 1) → ⊥
  pub before : (i : ℕ) → i < b - 1 → RightBlock ks s i

abbrev pub BadContent : Format → ℕ → Type 0
BadContent f n = (n < (form_of f).shortest) ⊎ ((form_of f).longest < n)

abbrev pub InUse : List (List ℕ) → ℕ → List ℕ → Type 0
InUse es n b = (i : ℕ) × ((i < n) × (get_or es i [] ≡ b))

pub record Spells (m x y z : ℕ) : Type 0 where
  pub first : (65 ≤ x) × (x ≤ 90)
  pub second : (65 ≤ y) × (y ≤ 90)
  pub third : (65 ≤ z) × (z ≤ 90)
  pub low : m % 32768 ≡ (x - 64) * 1024 + (y - 64) * 32 + (z - 64)
