-- What the sixteen chips behind the sync word decide (EN 13757-4:2019, 9.4.2; document 01, "Sync search").
--     kind_for k t    by the tail t of a sync at place k: 54CDh is mode C, format A; 543Dh is mode C, format B; any
--                    other whose first six chips are 010101 is no sync word of 9.4.2; all others are mode T, whose
--                    frame has begun (010101 is no three-of-six word)
--     tail_of s k     the same for the chips of s: Short where fewer than sixteen chips are left behind the sync word
use Rattle.std.specs.Prelude.{cond, List, ℕ, ◌+◌, ◌/◌, ◌^◌, ltb, eqb, Result, Ok, Err}
use Rattle.answers.specs.declared.Refusal.{Refusal}
use Rattle.answers.specs.declared.Refusal.TheVariants.{Short, UnknownTail, OutOfRange}
use Rattle.chips.specs.Chips.{word_at, chip_count, in_range}
use Rattle.sync.specs.declared.Kind.{Kind}
use Rattle.sync.specs.declared.Kind.TheVariants.{TWithA, CWithA, CWithB}

abbrev pub kind_for : ℕ → ℕ → Result Kind Refusal
kind_for k t =
    cond (eqb t 0x54CD) (Ok CWithA)
    (cond (eqb t 0x543D) (Ok CWithB)
    (cond (eqb (t / 2 ^ 10) 0b010101) (Err (UnknownTail k))
    (Ok TWithA)))

unfoldable pub tail_of : List ℕ → ℕ → Result Kind Refusal
tail_of s k =
    cond (in_range s k)
    (cond (ltb (chip_count s) (k + 32)) (Err Short) (kind_for k (word_at s (k + 16) 16)))
    (Err OutOfRange)
