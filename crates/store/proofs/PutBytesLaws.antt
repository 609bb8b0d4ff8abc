-- A meter put among others, in bytes: its twenty bytes in their place, and the count.
--     sets_behind         a run of stores behind what stands before
--     take_meters, drop_meters    the bytes of the meters before a place, and behind it
--     length_put          how many meters there are then
--     sets_meters         a meter's bytes stored at its place among the bytes of others
--     leaves_put          the memory with the meter put, as the code leaves it
-- Assumes nothing.
use mathlib.Core.List.{List, [], ◌∷◌, ◌++◌, append_assoc}
use mathlib.Core.Logic.{◌⊎◌, inl, inr}
use mathlib.Core.Path.{◌≡◌, refl, ◌∙◌, ap, sym}
use Prim.Native.Nat.{ℕ, suc, ◌+◌, ◌*◌, ◌≤◌, ◌<◌, max}
use native.Mathlib.Nat.{add-suc, eq-or-lt_of_le}
use native.Mathlib.Omega.{arith}
use lib.ListN.{length, take, drop, set, length-append, length-take, length-drop, take-append-drop, drop_of_length-le}
use lib.Seq.{sets, sets-eq, take_at, drop_at, drop-drop, length-take-le}
use Rattle.ground.proofs.BehindLaws.{set-append-add}
use Rattle.sessions.specs.declared.Meter.{Meter}
use Rattle.address.specs.Keys.{four_bytes}
use Rattle.sessions.specs.Meters.{Store, put}
use Rattle.sessions.specs.Changes.{with_meter}
use Rattle.sessions.specs.StoreFile.{meter_bytes, meters_bytes, memory_size}
use Rattle.sessions.specs.StoreCalls.{leaves}
use Rattle.sessions.proofs.MeterBytesLaws.{length-meters_bytes, meters_bytes-append}
use Rattle.store.specs.Inner.{place_of}
use Rattle.store.proofs.PlaceLaws.{place_of_le, put_place_of}

pub sets_behind : (xs l : List ℕ) (k : ℕ) (vs : List ℕ) → sets (xs ++ l) (length xs + k) vs ≡ xs ++ sets l k vs
sets_behind xs l k [] = refl
sets_behind xs l k (v ∷ vs) =
    rw (set-append-add xs l k v, ← add-suc (length xs) k) (sets_behind xs (set l k v) (suc k) vs)

pub length_put : (a : ℕ) (m : Meter) (ms : List Meter) → length (put a m ms) ≡ max (length ms) (place_of a ms + 1)
length_put a m ms =
    let p = place_of a ms in
    rw (put_place_of a m ms, length-append (take p ms) (m ∷ drop (suc p) ms), length-take p ms, length-drop (suc p) ms)
    (omega (arith, place_of_le a ms))

module _ (ms : List Meter) (rest : List ℕ) (p : ℕ) (low : p ≤ length ms) where
  length_before : length (meters_bytes (take p ms)) ≡ 20 * p
  length_before = rw (length-meters_bytes (take p ms), length-take-le p ms low)

  parted : meters_bytes ms ++ rest ≡ meters_bytes (take p ms) ++ (meters_bytes (drop p ms) ++ rest)
  parted =
      ap (λ (t : List ℕ). t ++ rest)
      (sym (ap meters_bytes (take-append-drop p ms)) ∙ meters_bytes-append (take p ms) (drop p ms))
      ∙ append_assoc (meters_bytes (take p ms)) (meters_bytes (drop p ms)) rest

  pub take_meters : take (20 * p) (meters_bytes ms ++ rest) ≡ meters_bytes (take p ms)
  take_meters = rw parted (take_at (meters_bytes (take p ms)) (meters_bytes (drop p ms) ++ rest) (20 * p) length_before)

  pub drop_meters : drop (20 * p) (meters_bytes ms ++ rest) ≡ meters_bytes (drop p ms) ++ rest
  drop_meters = rw parted (drop_at (meters_bytes (take p ms)) (meters_bytes (drop p ms) ++ rest) (20 * p) length_before)

module _ (ms : List Meter) (s : List ℕ) where
  past_last :
      drop (20 * length ms + 20) (meters_bytes ms ++ drop (8 + 20 * length ms) s) ≡ drop (8 + 20 * (length ms + 1)) s
  past_last =
      let rest = drop (8 + 20 * length ms) s in
      let e : 8 + 20 * length ms + 20 ≡ 8 + 20 * (length ms + 1) = omega arith in
      sym (drop-drop 20 (20 * length ms) (meters_bytes ms ++ rest))
      ∙ (ap (drop 20) (drop_at (meters_bytes ms) rest (20 * length ms) (length-meters_bytes ms))
      ∙ (drop-drop 20 (8 + 20 * length ms) s ∙ ap (λ (n : ℕ). drop n s) e))

  past_end : meters_bytes (drop (suc (length ms)) ms) ≡ []
  unfolding meters_bytes
  past_end = rw (drop_of_length-le ms {i = suc (length ms)} (omega arith))

  past_meter :
      (p : ℕ) → (p ≡ length ms) ⊎ (p < length ms) →
      drop (20 * p + 20) (meters_bytes ms ++ drop (8 + 20 * length ms) s)
      ≡ meters_bytes (drop (suc p) ms) ++ drop (8 + 20 * max (length ms) (p + 1)) s
  past_meter p (inl is) =
      let most : max (length ms) (length ms + 1) ≡ length ms + 1 = omega arith in
      rw (is, most, past_end) past_last
  past_meter p (inr low) =
      let most : max (length ms) (p + 1) ≡ length ms = omega arith in
      let next : 20 * p + 20 ≡ 20 * suc p = omega arith in
      rw (most, next) (drop_meters ms (drop (8 + 20 * length ms) s) (suc p) low)

regroup : (before m behind rest : List ℕ) → before ++ m ++ (behind ++ rest) ≡ before ++ (m ++ behind) ++ rest
regroup before m behind rest = simp append_assoc

module _ (a : ℕ) (m : Meter) (ms : List Meter) where
  meters_bytes_put :
      meters_bytes (put a m ms)
      ≡ meters_bytes (take (place_of a ms) ms) ++ (meter_bytes m ++ meters_bytes (drop (suc (place_of a ms)) ms))
  unfolding meters_bytes
  meters_bytes_put =
      let p = place_of a ms in
      ap meters_bytes (put_place_of a m ms) ∙ meters_bytes-append (take p ms) (m ∷ drop (suc p) ms)

  pub sets_meters :
      (s : List ℕ) → 28 + 20 * place_of a ms ≤ length s → 8 + 20 * length ms ≤ length s →
      sets (meters_bytes ms ++ drop (8 + 20 * length ms) s) (20 * place_of a ms) (meter_bytes m)
      ≡ meters_bytes (put a m ms) ++ drop (8 + 20 * length (put a m ms)) s
  sets_meters s room held =
      let p = place_of a ms in
      let rest = drop (8 + 20 * length ms) s in
      let long : 20 * p + 20 ≤ length (meters_bytes ms ++ rest) =
      omega (arith, length-append (meters_bytes ms) rest, length-meters_bytes ms, length-drop (8 + 20 * length ms) s) in
      let low = place_of_le a ms in
      sets-eq (meter_bytes m) (meters_bytes ms ++ rest) (20 * p) long
      ∙ rw (take_meters ms rest p low, past_meter ms s p (eq-or-lt_of_le low), length_put a m ms, meters_bytes_put)
      (regroup (meters_bytes (take p ms)) (meter_bytes m) (meters_bytes (drop (suc p) ms)) _)

-- the bytes before the meters
abbrev front : ℕ → ℕ → List ℕ → List ℕ
front allowance n meters = (2 ∷ 4 ∷ four_bytes allowance) ++ (1 ∷ n ∷ meters)

sets_front :
    (x n : ℕ) (l : List ℕ) (k : ℕ) (vs : List ℕ) (c : ℕ) →
    set (sets (front x n l) (8 + k) vs) 7 c ≡ front x c (sets l k vs)
sets_front x n l k vs c = ap (λ (t : List ℕ). set t 7 c) (sets_behind (front x n []) l k vs)

pub leaves_put :
    (a : ℕ) (m : Meter) (st : Store) (s : List ℕ) → let p = place_of a st.meters in
    length st.meters ≤ 64 → memory_size ≤ length s → p < 64 →
    set (sets (leaves st s) (8 + 20 * p) (meter_bytes m)) 7 (max (length st.meters) (p + 1))
    ≡ leaves (with_meter a m st) s
leaves_put a m st s few room low =
    let ms = st.meters in
    let x = st.allowance in
    let l = meters_bytes ms ++ drop (8 + 20 * length ms) s in
    let l' = meters_bytes (put a m ms) ++ drop (8 + 20 * length (put a m ms)) s in
    sets_front x (length ms) l (20 * place_of a ms) (meter_bytes m) _
    ∙ (ap (front x _) (sets_meters a m ms s (omega arith) (omega arith))
    ∙ ap (λ (n : ℕ). front x n l') (sym (length_put a m ms)))
