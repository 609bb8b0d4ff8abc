-- Where each of a file's meters is to stand, found one by one.
--     Placed                 so far: the places of the first i, and how many meters there are with them
--     placed_none            none yet
--     placed_held            one more that the store holds: its place there
--     placed_new             one more that it does not hold: behind the last
-- Assumes nothing.
use mathlib.Core.List.{List}
use mathlib.Core.Logic.{◌⊎◌, inl, inr}
use mathlib.Core.Path.{◌≡◌, refl, ◌∙◌, sym}
use Prim.Native.Nat.{ℕ, suc, ◌+◌, ◌≤◌, ◌<◌}
use native.Mathlib.Nat.{eq-or-lt_of_le}
use native.Mathlib.Omega.{arith}
use lib.ListN.{length, get_or, drop, set, length-set}
use lib.Seq.{get_or-set_same, get_or-set_other}
use Rattle.sessions.specs.StoreFile.{meters_in}
use Rattle.sessions.proofs.MetersInLaws.{length-meters_in}
use Rattle.store.specs.Inner.{place_of, address_at, restored_to, MetersFrom, placed_in}
use Rattle.store.proofs.PlaceLaws.{place_of_held, place_of_none}
use Rattle.store.proofs.RestoredToLaws.{restored_to-zero, place_of_restored, length_next_held, length_next_new, place_of_new}

-- in `size` bytes
pub record Placed (s : List ℕ) (count : ℕ) (file : List ℕ) (first size : ℕ) (places : List ℕ) (held i : ℕ)
    : Type 0 where
  pub few : held ≤ count + i
  pub long : length places ≡ size
  pub counted : held ≡ length (restored_to s count file first i)
  pub placed : placed_in places s count file first i

module _ (s : List ℕ) (count : ℕ) (file : List ℕ) (first : ℕ) where
  pub placed_none : (places : List ℕ) → Placed s count file first (length places) places count 0
  placed_none places =
      record {
        few = omega arith;
        long = refl;
        counted = rw (restored_to-zero s count file first) (sym (length-meters_in count (drop 8 s)));
        placed = λ j low. absurd (omega arith);
      }

module _
    {s : List ℕ}
    {count : ℕ}
    {file : List ℕ}
    {first size : ℕ}
    {places : List ℕ}
    {held i : ℕ}
    (so_far : Placed s count file first size places held i)
    (room : i < size)
  where
    placed_in_next :
        {p : ℕ} → p ≡ place_of (address_at file first i) (restored_to s count file first i)
        → placed_in (set places i p) s count file first (suc i)
    placed_in_next {p} here j low = by_place (eq-or-lt_of_le (omega arith))
      where
        by_place :
            (j ≡ i) ⊎ (j < i)
            → get_or (set places i p) j 0 ≡ place_of (address_at file first j) (restored_to s count file first j)
        by_place (inl e) = rw e (get_or-set_same places i p 0 (omega (arith, so_far.long)) ∙ here)
        by_place (inr before) = get_or-set_other places i j p 0 (λ e. omega arith) ∙ so_far.placed j before

    placed_next :
        {p more : ℕ} → more ≤ count + suc i → p ≡ place_of (address_at file first i) (restored_to s count file first i)
        → more ≡ length (restored_to s count file first (suc i))
        → Placed s count file first size (set places i p) more (suc i)
    placed_next {p} few here counted =
        record {
          few = few;
          long = length-set places i p ∙ so_far.long;
          counted = counted;
          placed = placed_in_next here;
        }

    module _ {place : ℕ} (found : place ≡ place_of (address_at file first i) (meters_in count (drop 8 s))) where
      pub placed_held : place < count → Placed s count file first size (set places i place) held (suc i)
      placed_held low =
          let a = address_at file first i in
          let ms = meters_in count (drop 8 s) in
          let known = place_of_held a ms (omega (arith, length-meters_in count (drop 8 s))) in
          placed_next (omega (arith, so_far.few))
          (found ∙ sym (place_of_restored a ms (meters_in i (drop first file)) known))
          (so_far.counted ∙ sym (length_next_held s count file first i known))

      pub placed_new :
          {n : ℕ} → MetersFrom first n file → i < n → count ≤ place
          → Placed s count file first size (set places i held) (held + 1) (suc i)
      placed_new m low high =
          let ms = meters_in count (drop 8 s) in
          let none = place_of_none (address_at file first i) ms (omega (arith, length-meters_in count (drop 8 s))) in
          placed_next (omega (arith, so_far.few))
          (so_far.counted ∙ sym (place_of_new s count file first i m low none))
          (omega (arith, so_far.counted, length_next_new s count file first i m low none))
