-- The sync search (document 01, "Sync search"; EN 13757-4:2019, 9.4.2), for any sync word v of w chips.
--     stands_at v w s k           do the w chips at place k of the bytes s make the number v?
--     positions w s start        how many places from `start` on have w chips: chips - w - start + 1, or 0 if negative
--     passed f k m               how many of the m places from k on are tried before the first at which f holds
--     found place tried           what a search finds: the word's place, and the how-manieth position it is
--     answer_after start a p i    the answer where i of the p positions from `start` on were passed over, a are allowed
--     search_for v w s start a    the search's answer: at most the smaller of a and the positions are tried
--     sync_word, sync_width        what modes T and C share: 543Dh, the 16 chips 0101010000111101
--     search_of s start a         the search for that word
-- Sums are of whole numbers: no start and no allowance is too large to be judged.
use Rattle.std.specs.Prelude.{Bool, cond, List, ℕ, zero, suc, ◌+◌, ◌-◌, min, ltb, leb, eqb, Result, Ok, Err}
use Rattle.answers.specs.declared.Refusal.{Refusal}
use Rattle.answers.specs.declared.Refusal.TheVariants.{NoSync, UsedUp, OutOfRange}
use Rattle.chips.specs.Chips.{word_at, chip_count, in_range}
use Rattle.sync.specs.declared.Found.{Found}

abbrev pub stands_at : ℕ → ℕ → List ℕ → ℕ → Bool
stands_at v w s k = eqb (word_at s k w) v

abbrev pub positions : ℕ → List ℕ → ℕ → ℕ
positions w s start = chip_count s + 1 - w - start

unfoldable pub passed : (ℕ → Bool) → ℕ → ℕ → ℕ
passed f k zero = 0
passed f k (suc m) = cond (f k) 0 (suc (passed f (suc k) m))

abbrev pub found : ℕ → ℕ → Found
found place tried = record { place = place; tried = tried }

-- fewer than may be tried: the word stands there; else all positions were tried, or the allowance ended before them
abbrev pub answer_after : ℕ → ℕ → ℕ → ℕ → Result Found Refusal
answer_after start a p i =
    cond (ltb i (min a p)) (Ok (found (start + i) (i + 1))) (cond (leb p a) (Err (NoSync p)) (Err (UsedUp a)))

unfoldable pub search_for : ℕ → ℕ → List ℕ → ℕ → ℕ → Result Found Refusal
search_for v w s start a =
    cond (in_range s start)
    (answer_after start a (positions w s start) (passed (stands_at v w s) start (min a (positions w s start))))
    (Err OutOfRange)

abbrev pub sync_word : ℕ
sync_word = 0x543D

abbrev pub sync_width : ℕ
sync_width = 16

abbrev pub search_of : List ℕ → ℕ → ℕ → Result Found Refusal
search_of s start a = search_for sync_word sync_width s start a
