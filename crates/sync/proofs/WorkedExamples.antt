-- Worked examples, computed: the chips of EN 13757-4:2019, 9.4.2, as bytes (document 01, "Sync search").
--     tail_of_worked       54CDh and 543Dh behind 543Dh are mode C with A and with B; beside them unknown tails; mode T
--     tail_of_moved        a sync word that begins in the middle of a byte, and its place with refusal 8
--     search_of_worked     the sync word found, and the three refusals, on both sides of the border between 7 and 14
use mathlib.Core.List.{List, [], ◌∷◌, map}
use mathlib.Core.Path.{◌≡◌, refl}
use Prim.Native.Nat.{ℕ}
use Rattle.std.specs.Prelude.{Ok, Err}
use Rattle.answers.specs.declared.Refusal.TheVariants.{Short, NoSync, UnknownTail, OutOfRange, UsedUp}
use Rattle.chips.specs.Chips.{gather}
use Rattle.sync.specs.SyncSearch.{found, passed, search_for, search_of}
use Rattle.sync.specs.Tails.{tail_of}
use Rattle.sync.specs.declared.Kind.TheVariants.{TWithA, CWithA, CWithB}

-- the sync word 543Dh at place 0, and two bytes behind it
abbrev behind : ℕ → ℕ → List ℕ
behind x y = 0x54 ∷ 0x3D ∷ x ∷ y ∷ []

-- 54CCh, 55CDh and 573Dh begin with 010101 and are no tail; 5A97h are the first chips of Annex C.2; a tail of 8 chips
pub tail_of_worked :
    map (λ s. tail_of s 0)
    (behind 0x54 0xCD ∷ behind 0x54 0x3D ∷ behind 0x54 0xCC ∷ behind 0x55 0xCD ∷ behind 0x57 0x3D ∷ behind 0x5A 0x97
    ∷ (0x54 ∷ 0x3D ∷ 0x54 ∷ []) ∷ [])
    ≡ Ok CWithA ∷ Ok CWithB ∷ Err (UnknownTail 0) ∷ Err (UnknownTail 0)
    ∷ Err (UnknownTail 0) ∷ Ok TWithA ∷ Err Short ∷ []
unfolding tail_of gather
tail_of_worked = refl

-- four chips 0, then 543Dh 54CDh, then 543Dh 54CCh
pub tail_of_moved :
    map (λ s. tail_of s 4) ((0x05 ∷ 0x43 ∷ 0xD5 ∷ 0x4C ∷ 0xD0 ∷ []) ∷ (0x05 ∷ 0x43 ∷ 0xD5 ∷ 0x4C ∷ 0xC0 ∷ []) ∷ [])
    ≡ Ok CWithA ∷ Err (UnknownTail 4) ∷ []
unfolding tail_of gather
tail_of_moved = refl

-- 40 chips have 25 positions: the word stands at place 4, the fifth; from place 5 on it does not stand again
abbrev chips : List ℕ
chips = 0x05 ∷ 0x43 ∷ 0xD0 ∷ 0x00 ∷ 0x00 ∷ []

pub search_of_worked :
    search_of chips 0 5 ∷ search_of chips 0 4 ∷ search_of chips 4 1 ∷ search_of chips 5 20 ∷ search_of chips 5 19
    ∷ search_of chips 40 1 ∷ search_of chips 41 1 ∷ []
    ≡ Ok (found 4 5) ∷ Err (UsedUp 4) ∷ Ok (found 4 1) ∷ Err (NoSync 20) ∷ Err (UsedUp 19)
    ∷ Err (NoSync 0) ∷ Err OutOfRange ∷ []
unfolding search_for passed gather
search_of_worked = refl
