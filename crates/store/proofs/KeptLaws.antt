-- A memory that holds a store, as its bytes say it, and a meter in it.
--     Kept s count, kept_memory     the memory s holds a store of so many meters
--     opened_kept                   a memory that was judged holds one
--     at_place, place-le       its place
--     held, none               whether a meter is held, by its place
--     meter_there, meter_known    what is held of it
--     memory_put               the memory with the meter put, as the code leaves it
-- Assumes nothing.
use Rattle.std.specs.Prelude.{Result, Ok, Err}
use mathlib.Core.Bool.{true, false}
use mathlib.Core.List.{List, []}
use mathlib.Core.Path.{◌≡◌, refl, ◌∙◌, ap, sym}
use Prim.Native.Nat.{ℕ, ◌+◌, ◌*◌, ◌≤◌, ◌<◌, max}
use native.Mathlib.Omega.{arith}
use borrow.Author.Tests.{ltb-true, ltb-false}
use lib.Dec.{ltb}
use lib.ListN.{length, get_or, drop, set}
use lib.Seq.{sets, drop-drop}
use Rattle.ground.specs.Bytes.{Bytes}
use Rattle.ground.proofs.CaseLaws.{by_test, zero_not_one}
use Rattle.answers.specs.declared.Refusal.{Refusal}
use Rattle.address.specs.Keys.{four_at}
use Rattle.sessions.specs.declared.Meter.{Meter}
use Rattle.sessions.specs.Meters.{Store, stranger, meter_of, holds}
use Rattle.sessions.specs.Changes.{with_meter}
use Rattle.sessions.specs.StoreFile.{meter_bytes, meter_in, meters_in, unlike, memory_of}
use Rattle.sessions.specs.StoreCalls.{leaves}
use Rattle.sessions.proofs.ExactLaws.{memory_of_exactly, memory_of_is, leaves_same}
use Rattle.sessions.proofs.MetersInLaws.{length-meters_in, get_or-meters_in}
use Rattle.sessions.proofs.OnceLaws.{unlike_once}
use Rattle.sessions.proofs.PutLaws.{meter_of-stranger}
use Rattle.store.specs.declared.index.Index.{Index}
use Rattle.store.specs.Inner.{place_of, held_by, known_at}
use Rattle.store.specs.InnerOpened.{Opened}
use Rattle.store.proofs.PlaceLaws.{place_of_le, place_of_held, place_of_none, meter_of_place_of}
use Rattle.store.proofs.PutBytesLaws.{leaves_put}

pub record Kept (s : List ℕ) (count : ℕ) : Type 0 where
  pub store : Store
  pub read : memory_of s ≡ Ok store
  pub size : length store.meters ≡ count
  pub few : count ≤ 64
  pub room : 1288 ≤ length s
  pub meters : meters_in count (drop 8 s) ≡ store.meters
  pub once : unlike [] (meters_in count (drop 8 s)) ≡ true
  pub allowance : four_at s 2 ≡ store.allowance
  pub same : leaves store s ≡ s

module _ (s : List ℕ) (count : ℕ) (bytes : Bytes s) where
  meters_in_count :
      {ms : List Meter} →
      meters_in (get_or s 7 0) (drop 8 s) ≡ ms →
      length ms ≡ count →
      meters_in count (drop 8 s) ≡ ms
  meters_in_count is size =
      let n : get_or s 7 0 ≡ count = sym (length-meters_in (get_or s 7 0) (drop 8 s)) ∙ (ap length is ∙ size) in
      rw (← n) is

  kept_of : (r : Result Store Refusal) → memory_of s ≡ r → held_by r ≡ Ok count → Kept s count
  kept_of (Err why) e h = absurd (zero_not_one (cc))
  kept_of (Ok st) e h =
      let w = (memory_of_exactly s st bytes).0 e in
      let is = memory_of_is s e in
      let size : length st.meters ≡ count = cc in
      let meters = meters_in_count (ap (λ (x : Store). x.meters) is) size in
      record {
        store = st;
        read = e;
        size = size;
        few = omega (arith, w.valid.few);
        room = w.room;
        meters = meters;
        once = rw meters ((unlike_once st.meters).1 w.valid.once);
        allowance = ap (λ (x : Store). x.allowance) is;
        same = leaves_same bytes e;
      }

  pub kept_memory : held_by (memory_of s) ≡ Ok count → Kept s count
  kept_memory h = kept_of (memory_of s) refl h

pub opened_kept : {s : List ℕ} {m : Index} → Opened (memory_of s) s 8 m → Kept s m.count
opened_kept {s} {m} o = kept_memory s m.count (rw o.over at m.octets) o.held

module _ {s : List ℕ} {count : ℕ} (k : Kept s count) (a p : ℕ) (at : p ≡ place_of a (meters_in count (drop 8 s))) where
  pub at_place : p ≡ place_of a k.store.meters
  at_place = rw k.meters at at

  pub place-le : p ≤ count
  place-le = omega (arith, at_place, k.size, place_of_le a k.store.meters)

  pub held : p < count → holds a k.store.meters ≡ true
  held low = place_of_held a k.store.meters (omega (arith, at_place, k.size))

  pub none : count ≤ p → holds a k.store.meters ≡ false
  none high = place_of_none a k.store.meters (omega (arith, at_place, k.size))

  pub meter_there : p < count → meter_in (drop (8 + 20 * p) s) ≡ meter_of a k.store.meters
  meter_there low =
      let here = get_or-meters_in count (drop 8 s) p (stranger a) low in
      rw (meter_of_place_of a k.store.meters, ← k.meters, ← at, here, drop-drop (20 * p) 8 s)

  pub meter_known : known_at s count p a ≡ meter_of a k.store.meters
  meter_known =
      by_test (ltb p count) (λ low. rw low (meter_there (ltb-true p count low)))
      (λ high. rw high (sym (meter_of-stranger a k.store.meters (none (ltb-false p count high)))))

  pub memory_put :
      (m : Meter) → p < 64 →
      set (sets s (8 + 20 * p) (meter_bytes m)) 7 (max count (p + 1)) ≡ leaves (with_meter a m k.store) s
  memory_put m low =
      let putting = leaves_put a m k.store s (omega (arith, k.size, k.few)) k.room (omega (arith, at_place)) in
      rw (k.same, ← at_place, k.size) at putting
