-- What the sync search promises, said without its steps (document 01, "Sync search").
--     FirstAt v w s start a k t    the word stands at place k, from `start` on at no place before it, and k is the
--                                  t-th position tried, which the allowance a covers
use Rattle.std.specs.Prelude.{◌≡◌, List, ℕ, ◌+◌, ◌-◌, ◌≤◌, ◌<◌}
use Rattle.chips.specs.Chips.{word_at, chip_count}

pub record FirstAt (v w : ℕ) (s : List ℕ) (start a k t : ℕ) : Type 0 where
  pub behind : start ≤ k
  pub whole : k + w ≤ chip_count s
  pub stands : word_at s k w ≡ v
  pub first : (j : ℕ) → start ≤ j → j < k → word_at s j w ≡ v → ⊥
  pub counted : t ≡ k - start + 1
  pub allowed : t ≤ a
