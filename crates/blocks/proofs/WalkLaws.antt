-- What a walk still has to do, as one list: a turn leaves it as it was, so that it is each loop's invariant.
--     filled d at xs n                          d, of which `at` bytes are done, once the n bytes xs stand behind them
--     filled_start, filled_end, filled_turn     at the start nothing is done, at the end nothing is left; and between
--     take_filled, part_filled, drop_filled     what stands before, at and behind the bytes xs
-- And one block in its place: its check stored, its bytes copied first, or its first byte stored.
use mathlib.Core.List.{List, [], ◌∷◌, ◌++◌, append_assoc}
use mathlib.Core.Path.{◌≡◌, ap, sym, ◌∙◌}
use Prim.Native.Nat.{ℕ, suc, ◌+◌, ◌/◌, ◌%◌, ◌≤◌, ◌<◌}
use native.Mathlib.Nat.{add-zero, zero-add, add_assoc, not-suc-le-zero}
use native.Mathlib.Numerals.{add-one}
use native.Mathlib.Omega.{arith}
use lib.ListN.{length, take, drop, set, length-append, take-append-drop}
use lib.Seq.{take_at, drop_at, take-add, drop-drop, sets-eq, paste, length-take-le}
use Rattle.crc.specs.Check.{check_of}
use Rattle.blocks.specs.Spans.{sealed}

unfoldable pub filled : List ℕ → ℕ → List ℕ → ℕ → List ℕ
filled d at xs n = take at d ++ (xs ++ drop (at + n) d)

pub filled_start : (d xs : List ℕ) (n : ℕ) → filled d 0 xs n ≡ xs ++ drop n d
unfolding filled
filled_start d xs n = rw zero-add

pub filled_end : (d : List ℕ) (at : ℕ) → filled d at [] 0 ≡ d
unfolding filled
filled_end d at = rw add-zero (take-append-drop at d)

-- what is put behind a front part x
pub filled_front :
    (d x : List ℕ) {k : ℕ} → length x ≡ k → (xs : List ℕ) (n : ℕ)
    → filled (x ++ drop k d) k xs n ≡ (x ++ xs) ++ drop (k + n) d
unfolding filled
filled_front d x {k} size xs n =
    let behind = sym (drop-drop n k (x ++ drop k d)) ∙ ap (drop n) (drop_at x (drop k d) k size) ∙ drop-drop n k d in
    rw (take_at x (drop k d) k size, behind) (sym (append_assoc x xs (drop (k + n) d)))

module _ (d : List ℕ) (at : ℕ) (x : List ℕ) {k : ℕ} (inside : at ≤ length d) (size : length x ≡ k) where
  take_filled : take at (filled d at x k) ≡ take at d
  unfolding filled
  take_filled = take_at (take at d) (x ++ drop (at + k) d) at (length-take-le at d inside)

  part_filled : take k (drop at (filled d at x k)) ≡ x
  unfolding filled
  part_filled =
      rw (drop_at (take at d) (x ++ drop (at + k) d) at (length-take-le at d inside))
      (take_at x (drop (at + k) d) k size)

  length_done : length (take at d ++ x) ≡ at + k
  length_done = rw (length-append, length-take-le at d inside, size)

  take_done : take (at + k) (filled d at x k) ≡ take at d ++ x
  unfolding filled
  take_done =
      rw (← append_assoc (take at d) x (drop (at + k) d))
      (take_at (take at d ++ x) (drop (at + k) d) (at + k) length_done)

  drop_filled : (n : ℕ) → drop (at + k + n) (filled d at x k) ≡ drop (at + k + n) d
  unfolding filled
  drop_filled n =
      sym (drop-drop n (at + k) (take at d ++ (x ++ drop (at + k) d)))
      ∙ rw (← append_assoc (take at d) x (drop (at + k) d))
      (ap (drop n) (drop_at (take at d ++ x) (drop (at + k) d) (at + k) length_done))
      ∙ drop-drop n (at + k) d

  -- a turn: the k bytes x are put behind what is done
  pub filled_turn : (xs : List ℕ) (n : ℕ) → filled (filled d at x k) (at + k) xs n ≡ filled d at (x ++ xs) (k + n)
  unfolding filled
  filled_turn xs n = rw (take_done, drop_filled n, add_assoc at k n) (simp append_assoc)

  -- a span that was put into its place, then sealed there
  pub sealed_filled :
      let m = filled d at x k in
      take at m ++ (sealed (take k (drop at m)) ++ drop (at + k + 2) m)
      ≡ take at d ++ (sealed x ++ drop (at + k + 2) d)
  sealed_filled = rw (take_filled, part_filled, drop_filled 2)

-- the two stores of a check are the sealed span in its place
pub sealed_at :
    (d : List ℕ) (at k : ℕ) → at + k + 2 ≤ length d
    → let c = check_of (take k (drop at d)) in
    set (set d (at + k) (c / 256)) (at + k + 1) (c % 256)
    ≡ take at d ++ (sealed (take k (drop at d)) ++ drop (at + k + 2) d)
unfolding sealed
sealed_at d at k fits =
    rw add-one (sets-eq (_ ∷ _ ∷ []) d (at + k) (omega arith) ∙ simp (take-add, append_assoc))

-- copying puts a span into its place
pub paste_filled : (d s : List ℕ) (at k : ℕ) → paste d at s k ≡ filled d at (take k s) k
unfolding filled
paste_filled d s at k = append_assoc (take at d) (take k s) (drop (at + k) d)

-- the first span: its first byte is stored, the others are copied behind it, then it is sealed
paste_first :
    (d c : List ℕ) (l k : ℕ) → 0 < length d → paste (set d 0 l) 1 c k ≡ filled d 0 (l ∷ take k c) (k + 1)
unfolding filled
paste_first [] c l k some = absurd (not-suc-le-zero some)
paste_first (x ∷ ds) c l k some =
    let one : 1 + k ≡ suc k = omega arith in
    let none : 0 + (k + 1) ≡ suc k = omega arith in
    rw (one, none)

pub sealed_first :
    (d c : List ℕ) (l k : ℕ) → 0 < length d → k ≤ length c
    → let m = paste (set d 0 l) 1 c k in
    take 0 m ++ (sealed (take (k + 1) (drop 0 m)) ++ drop (0 + (k + 1) + 2) m) ≡ sealed (l ∷ take k c) ++ drop (k + 3) d
sealed_first d c l k some there =
    let three : 0 + (k + 1) + 2 ≡ k + 3 = omega arith in
    let size : length (l ∷ take k c) ≡ k + 1 = rw (length-take-le k c there) (omega arith) in
    rw (paste_first d c l k some) (sealed_filled d 0 (l ∷ take k c) (omega arith) size ∙ rw three)
