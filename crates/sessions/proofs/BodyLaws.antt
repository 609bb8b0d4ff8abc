-- The part of a store's bytes that both versions have: the meter count at place k, and the meters behind it.
--     MetersAt k s ms rest             they stand in s, with rest behind them
--     right_body_body, meters_in_body    the test then passes, and these meters are read
--     room_body, valid_body, take_body    where it passes: the bytes are there, a store can hold these meters, and the
--                                         bytes are theirs
-- Assumes nothing.
use mathlib.Core.Bool.{true}
use mathlib.Core.List.{List, [], ◌∷◌, ◌++◌, append_assoc}
use mathlib.Core.Path.{◌≡◌, ◌∙◌}
use Prim.Native.Nat.{ℕ, ◌+◌, ◌*◌, ◌<◌, ◌≤◌}
use native.Mathlib.Numerals.{add-one}
use native.Mathlib.Omega.{arith}
use borrow.Author.Tests.{eqb-true, leb-true, le-leb}
use lib.Dec.{eqb, leb}
use lib.ListN.{length, get_or, take, drop, length-drop}
use lib.Seq.{take-add}
use Rattle.ground.specs.Bytes.{Bytes}
use Rattle.ground.proofs.ByteLaws.{bytes_drop}
use Rattle.ground.proofs.CaseLaws.{and_left, and_right}
use Rattle.address.proofs.NameLaws.{take-drop}
use Rattle.sessions.specs.declared.Meter.{Meter}
use Rattle.sessions.specs.Meters.{Store, stranger}
use Rattle.sessions.specs.StoreFile.{meters_bytes, meters_in, all_right, unlike, right_count, right_body, store_in}
use Rattle.sessions.specs.Valid.{Fits, Valid}
use Rattle.sessions.proofs.MeterBytesLaws.{fits-meter_in}
use Rattle.sessions.proofs.MetersInLaws.{meters_in_bytes, all_right_bytes, take-meters_bytes, length-meters_in, get_or-meters_in}
use Rattle.sessions.proofs.OnceLaws.{unlike_once}

pub record MetersAt (k : ℕ) (s : List ℕ) (ms : List Meter) (rest : List ℕ) : Type 0 where
  pub one : get_or s k 0 ≡ 1
  pub count : get_or s (k + 1) 0 ≡ length ms
  pub room : k + 2 + 20 * length ms ≤ length s
  pub bytes : drop (k + 2) s ≡ meters_bytes ms ++ rest

module _ {k : ℕ} {s : List ℕ} {st : Store} {rest : List ℕ} (v : Valid st) (b : MetersAt k s st.meters rest) where
  right_count_body : right_count k s ≡ true
  right_count_body = rw (b.one, b.count, le-leb _ _ v.few, le-leb _ _ b.room)

  pub meters_in_body : meters_in (get_or s (k + 1) 0) (drop (k + 2) s) ≡ st.meters
  meters_in_body = rw (b.count, b.bytes) (meters_in_bytes st.meters rest v.fit)

  all_right_body : all_right (get_or s (k + 1) 0) (drop (k + 2) s) ≡ true
  all_right_body = rw (b.count, b.bytes) (all_right_bytes st.meters rest)

  pub right_body_body : right_body k s ≡ true
  right_body_body = rw (right_count_body, all_right_body, meters_in_body) ((unlike_once st.meters).1 v.once)

record Counted (k : ℕ) (s : List ℕ) : Type 0 where
  one : get_or s k 0 ≡ 1
  few : get_or s (k + 1) 0 ≤ 64
  room : k + 2 + 20 * get_or s (k + 1) 0 ≤ length s

module _ (k : ℕ) (s : List ℕ) (right : right_body k s ≡ true) where
  counted : Counted k s
  counted =
      let count = and_left (right_count k s) _ right in
      let rest = and_right (eqb (get_or s k 0) 1) _ count in
      record {
        one = eqb-true _ _ (and_left _ _ count);
        few = leb-true _ _ (and_left _ _ rest);
        room = leb-true _ _ (and_right (leb (get_or s (k + 1) 0) 64) _ rest);
      }

  pub room_body : k + 2 + 20 * get_or s (k + 1) 0 ≤ length s
  room_body = counted.room

  meters_right : all_right (get_or s (k + 1) 0) (drop (k + 2) s) ≡ true
  meters_right = and_left _ _ (and_right (right_count k s) _ right)

  meters_unlike : unlike [] (meters_in (get_or s (k + 1) 0) (drop (k + 2) s)) ≡ true
  meters_unlike =
      and_right (all_right (get_or s (k + 1) 0) (drop (k + 2) s)) _ (and_right (right_count k s) _ right)

  module _ (bytes : Bytes s) where
    fit_body :
        (i : ℕ) → i < get_or s (k + 1) 0
        → Fits (get_or (meters_in (get_or s (k + 1) 0) (drop (k + 2) s)) i (stranger 0))
    fit_body i h =
        let t = drop (k + 2) s in
        rw (get_or-meters_in (get_or s (k + 1) 0) t i (stranger 0) h)
        (fits-meter_in (drop (20 * i) t) (bytes_drop (20 * i) t (bytes_drop (k + 2) s bytes)))

    pub valid_body : (a : ℕ) → a < 4294967296 → Valid (store_in k a s)
    valid_body a h =
        let size = length-meters_in (get_or s (k + 1) 0) (drop (k + 2) s) in
        record {
          few = rw size counted.few;
          fit = λ i p. fit_body i (rw size at p);
          once = (unlike_once _).0 meters_unlike;
          allows = h;
        }

    take_meters :
        take (20 * get_or s (k + 1) 0) (drop (k + 2) s) ≡ meters_bytes (meters_in (get_or s (k + 1) 0) (drop (k + 2) s))
    take_meters =
        take-meters_bytes (get_or s (k + 1) 0) (drop (k + 2) s) (bytes_drop (k + 2) s bytes)
        (omega (arith, length-drop (k + 2) s, counted.room)) meters_right

    take_count : take 2 (drop k s) ≡ 1 ∷ get_or s (k + 1) 0 ∷ []
    take_count = take-drop 2 s k (omega (arith, counted.room)) ∙ rw (counted.one, add-one k)

    pub take_body :
        take (k + 2 + 20 * get_or s (k + 1) 0) s
        ≡ take k s ++ (1 ∷ get_or s (k + 1) 0 ∷ meters_bytes (meters_in (get_or s (k + 1) 0) (drop (k + 2) s)))
    take_body =
        take-add (k + 2) (20 * get_or s (k + 1) 0) s ∙ rw (take-add k 2 s, take_count, take_meters, append_assoc)
