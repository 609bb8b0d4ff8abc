-- Meters judged one by one.
--     and_wrong      one of two is false
--     wrong_meter    one that is no meter decides
--     twice          one that stands before decides
--     right_next, unlike_next    one more that is a meter, and stands not before
--     meters_none, meters_next       so far nothing was wrong
--     wrong_there, twice_there       one that is no meter, or stands before, decides for more of them
-- Assumes nothing.
use mathlib.Core.Bool.{Bool, true, false, ◌&&◌, true≢false}
use mathlib.Core.List.{List, []}
use mathlib.Core.Path.{◌≡◌, refl, ◌∙◌, ap, sym}
use Prim.Native.Nat.{ℕ, suc, ◌+◌, ◌*◌, ◌<◌, ◌≤◌}
use native.Mathlib.Omega.{arith}
use lib.ListN.{length, get_or, drop}
use lib.Seq.{drop-drop, get_or-take}
use Rattle.sessions.specs.Meters.{stranger, holds}
use Rattle.sessions.specs.StoreFile.{meter_in, meters_in, right_meter, all_right, unlike}
use Rattle.sessions.proofs.MetersInLaws.{right_meter_at, all_right-suc, meters_in-suc, take-meters_in, length-meters_in, get_or-meters_in}
use Rattle.sessions.proofs.OnceLaws.{unlike_once, unlike_snoc}
use Rattle.store.specs.Inner.{place_of, address_at, MetersFrom}
use Rattle.store.proofs.MeterAtLaws.{key_at_drop}
use Rattle.store.proofs.PlaceLaws.{place_of_held, place_of_none, place_of_there}
use Rattle.store.proofs.IndexLaws.{not_true}

pub and_wrong : (t u : Bool) → u ≡ false → false ≡ (t && u)
and_wrong true u wrong = sym wrong
and_wrong false u wrong = refl

module _ (s : List ℕ) (first i : ℕ) where
  behind : drop (20 * i) (drop first s) ≡ drop (first + 20 * i) s
  behind = drop-drop (20 * i) first s

  pub wrong_meter : (n : ℕ) → i < n → right_meter (drop (first + 20 * i) s) ≡ false → all_right n (drop first s) ≡ false
  wrong_meter n low wrong =
      not_true (all_right n (drop first s)) (λ right.
      true≢false (sym (right_meter_at n (drop first s) i right low) ∙ (ap right_meter behind ∙ wrong)))

  pub right_next :
      all_right i (drop first s) ≡ true →
      right_meter (drop (first + 20 * i) s) ≡ true →
      all_right (suc i) (drop first s) ≡ true
  right_next before here = rw (all_right-suc i (drop first s), before, behind) here

  pub unlike_next :
      unlike [] (meters_in i (drop first s)) ≡ true →
      holds (meter_in (drop (first + 20 * i) s)).address (meters_in i (drop first s)) ≡ false →
      unlike [] (meters_in (suc i) (drop first s)) ≡ true
  unlike_next before new =
      let t = drop first s in
      rw (meters_in-suc i t, unlike_snoc [] (meters_in i t) (meter_in (drop (20 * i) t)), before, behind, new)

  pub twice :
      (n : ℕ) →
      i < n →
      place_of (meter_in (drop (first + 20 * i) s)).address (meters_in i (drop first s)) < i →
      unlike [] (meters_in n (drop first s)) ≡ false
  twice n low before =
      let t = drop first s in
      let a = (meter_in (drop (first + 20 * i) s)).address in
      let p = place_of a (meters_in i t) in
      let size = length-meters_in i t in
      let there = place_of_there a (meters_in i t) (place_of_held a (meters_in i t) (rw size before)) in
      let earlier : (get_or (meters_in n t) p (stranger 0)).address ≡ a =
      rw (← get_or-take i (meters_in n t) p (stranger 0) before, take-meters_in i n t (omega arith)) there in
      let later : (get_or (meters_in n t) i (stranger 0)).address
      ≡ a = rw (get_or-meters_in n t i (stranger 0) low, behind) in
      let long = length-meters_in n t in
      let inside : p < length (meters_in n t) = omega (arith, before, low, long) in
      not_true (unlike [] (meters_in n t)) (λ once.
      let same = (unlike_once (meters_in n t)).0 once p i inside (omega (arith, low, long)) (earlier ∙ sym later) in
      omega (arith, before, same))

pub meters_none : (s : List ℕ) (first : ℕ) → first ≤ length s → MetersFrom first 0 s
unfolding all_right meters_in unlike
meters_none s first room = record { few = omega arith; room = omega arith; right = refl; once = refl }

pub meters_next :
    {s : List ℕ} {first i : ℕ} →
    MetersFrom first i s →
    i < 64 →
    first + 20 * (i + 1) ≤ length s →
    right_meter (drop (first + 20 * i) s) ≡ true →
    i ≤ place_of (address_at s first i) (meters_in i (drop first s)) →
    MetersFrom first (suc i) s
meters_next {s} {first} {i} m low room here new =
    let ms = meters_in i (drop first s) in
    let none = place_of_none (address_at s first i) ms (rw (length-meters_in i (drop first s)) new) in
    record {
      few = omega arith;
      room = omega arith;
      right = right_next s first i m.right here;
      once = unlike_next s first i m.once (rw (key_at_drop s (first + 20 * i) 1) none);
    }

-- where the meter at i is none, or stands before, there are no n meters with it
module _ (s : List ℕ) (first i : ℕ) where
  pub wrong_there :
      right_meter (drop (first + 20 * i) s) ≡ false → (n : ℕ) → i < n
      → all_right n (drop first s) && unlike [] (meters_in n (drop first s)) ≡ false
  wrong_there wrong n low = rw (wrong_meter s first i n low wrong)

  pub twice_there :
      place_of (address_at s first i) (meters_in i (drop first s)) < i → (n : ℕ) → i < n
      → all_right n (drop first s) && unlike [] (meters_in n (drop first s)) ≡ false
  twice_there before n low =
      let t = drop first s in
      sym (and_wrong (all_right n t) (unlike [] (meters_in n t))
      (twice s first i n low (rw (key_at_drop s (first + 20 * i) 1) before)))
