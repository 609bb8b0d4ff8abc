-- A walk over places, window by window (specs/SyncSearch, chips/proofs/WindowLaws).
--     stands_in v x j       do the sixteen chips at place j of the 64 chips x make the number v?
--     passed_window        a walk over n places from k on, in the window that begins with k's byte
--     Turn f k m i n j     a turn of the walk over m places: i are missed, and of the n behind them j are passed over
--     turn_hit, -miss      the turn stops short: there the walk ends; or it does not: n more are missed
use mathlib.Core.Bool.{Bool, true}
use mathlib.Core.Path.{◌≡◌, sym}
use mathlib.Core.List.{List}
use Prim.Native.Nat.{ℕ, ◌+◌, ◌*◌, ◌-◌, ◌/◌, ◌%◌, ◌^◌, ◌≤◌, ◌<◌}
use native.Mathlib.Omega.{arith}
use lib.Dec.{eqb}
use Rattle.chips.specs.Chips.{word_at}
use Rattle.chips.proofs.WindowLaws.{word_at_window}
use Rattle.sync.specs.SyncSearch.{passed, stands_at}
use Rattle.sync.proofs.PassedLaws.{Missed, missed-add, passed_stands, passed_misses, passed_first, passed_same}

abbrev pub stands_in : ℕ → ℕ → ℕ → Bool
stands_in v x j = eqb (x / 2 ^ (48 - j) % 65536) v

stands_in_window : (v : ℕ) (s : List ℕ) (k j : ℕ) → k % 8 + j ≤ 48
    → stands_in v (word_at s (8 * (k / 8)) 64) (k % 8 + j) ≡ stands_at v 16 s (k + j)
stands_in_window v s k j l =
    let place : 8 * (k / 8) + (k % 8 + j) ≡ k + j = omega arith in
    let below : 48 - (k % 8 + j) ≡ 64 - (k % 8 + j) - 16 = omega arith in
    rw (below, word_at_window s (k / 8) 64 (k % 8 + j) 16 (omega arith), place)

pub passed_window : (v : ℕ) (s : List ℕ) (k n : ℕ) → k % 8 + n ≤ 49
    → passed (stands_in v (word_at s (8 * (k / 8)) 64)) (k % 8) n ≡ passed (stands_at v 16 s) k n
passed_window v s k n h =
    passed_same (stands_in v (word_at s (8 * (k / 8)) 64)) (stands_at v 16 s) (k % 8) k n
    (λ j l. stands_in_window v s k j (omega arith))

pub record Turn (f : ℕ → Bool) (k m i n j : ℕ) : Type 0 where
  pub missed : Missed f k i
  pub fits : i + n ≤ m
  pub over : j ≡ passed f (k + i) n

module _ {f : ℕ → Bool} {k m i n j : ℕ} (t : Turn f k m i n j) where
  missed_turn : Missed f (k + i) j
  missed_turn = rw t.over (passed_misses f (k + i) n)

  pub turn_miss : n ≤ j → Missed f k (i + n)
  turn_miss h = missed-add f k i n t.missed (λ l g. missed_turn l (omega arith))

  pub turn_hit : j < n → i + j ≡ passed f k m
  turn_hit h =
      let place : k + (i + j) ≡ k + i + j = omega arith in
      let here : f (k + i + j) ≡ true = rw t.over (passed_stands f (k + i) n (rw t.over at h)) in
      let le = t.fits in
      sym (passed_first f k m (i + j) (omega arith) (rw place here) (missed-add f k i j t.missed missed_turn))
