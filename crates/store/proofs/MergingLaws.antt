-- Memory with other meters for its own (specs/Inner, `merging`).
--     merging_same       its own meters
--     length-merging     it stays as long as it was
--     merging_put        a meter's twenty bytes stored at its place
--     meter_in-merging    a meter read at its place
--     leaves-merging     with the allowance and the count: the store with these meters
-- Assumes nothing.
use mathlib.Core.List.{List, ◌++◌}
use mathlib.Core.Path.{◌≡◌, ◌∙◌, ap, sym}
use Prim.Native.Nat.{ℕ, suc, ◌+◌, ◌*◌, ◌≤◌, ◌<◌}
use native.Mathlib.Omega.{arith}
use lib.ListN.{length, get_or, take, drop, set, length-append, length-drop, take-append-drop}
use lib.Seq.{sets, drop-drop, drop-cons, drop-append-add, length-take-le}
use Rattle.ground.specs.Bytes.{Bytes}
use Rattle.ground.proofs.ByteLaws.{bytes_drop}
use Rattle.address.specs.Keys.{four_bytes}
use Rattle.address.proofs.NameLaws.{take-drop}
use Rattle.sessions.specs.declared.Meter.{Meter}
use Rattle.sessions.specs.Meters.{put}
use Rattle.sessions.specs.StoreFile.{meter_bytes, meters_bytes, meter_in, meters_in}
use Rattle.sessions.specs.StoreCalls.{leaves}
use Rattle.sessions.specs.Valid.{Fits}
use Rattle.sessions.proofs.MeterBytesLaws.{meter_in_bytes, length-meters_bytes}
use Rattle.sessions.proofs.MetersInLaws.{take-meters_bytes, length-meters_in}
use Rattle.store.specs.Inner.{place_of, MetersFrom, merging}
use Rattle.store.proofs.PutBytesLaws.{sets_behind, drop_meters, sets_meters}

pub merging_same :
    {s : List ℕ} {count : ℕ} → Bytes s → MetersFrom 8 count s → s ≡ merging s (meters_in count (drop 8 s))
merging_same {s} {count} bytes m =
    let t = drop 8 s in
    let own = take-meters_bytes count t (bytes_drop 8 s bytes) (omega (arith, length-drop 8 s, m.room)) m.right in
    let rest = take-append-drop (20 * count) t in
    sym (rw (length-meters_in count t, ← own, ← drop-drop (20 * count) 8 s, rest) (take-append-drop 8 s))

module _ (s : List ℕ) (ms : List Meter) (room : 8 + 20 * length ms ≤ length s) where
  behind : List ℕ
  behind = meters_bytes ms ++ drop (8 + 20 * length ms) s

  length_behind : length behind + 8 ≡ length s
  unfolding behind
  length_behind =
      let rest = length-drop (8 + 20 * length ms) s in
      omega (arith, length-append (meters_bytes ms) (drop (8 + 20 * length ms) s), length-meters_bytes ms, rest)

  length_head : length (take 8 s) ≡ 8
  length_head = length-take-le 8 s (omega arith)

  pub length-merging : length (merging s ms) ≡ length s
  unfolding behind
  length-merging = omega (arith, length-append (take 8 s) behind, length_behind, length_head)

  drop-merging : (k : ℕ) → drop (8 + k) (merging s ms) ≡ drop k behind
  unfolding behind
  drop-merging k =
      ap (λ (n : ℕ). drop (n + k) (merging s ms)) (sym length_head) ∙ drop-append-add (take 8 s) behind k

  sets-merging : (k : ℕ) (vs : List ℕ) → sets (merging s ms) (8 + k) vs ≡ take 8 s ++ sets behind k vs
  unfolding behind
  sets-merging k vs =
      ap (λ (n : ℕ). sets (merging s ms) (n + k) vs) (sym length_head) ∙ sets_behind (take 8 s) behind k vs

  pub merging_put :
      (a : ℕ) (m : Meter) → 28 + 20 * place_of a ms ≤ length s
      → sets (merging s ms) (8 + 20 * place_of a ms) (meter_bytes m) ≡ merging s (put a m ms)
  unfolding behind
  merging_put a m inside =
      sets-merging (20 * place_of a ms) (meter_bytes m)
      ∙ ap (λ (t : List ℕ). take 8 s ++ t) (sets_meters a m ms s inside room)

  pub meter_in-merging :
      (p : ℕ) (d : Meter) → p < length ms → Fits (get_or ms p d)
      → meter_in (drop (8 + 20 * p) (merging s ms)) ≡ get_or ms p d
  unfolding behind meters_bytes
  meter_in-merging p d low fit =
      let rest = drop (8 + 20 * length ms) s in
      rw (drop-merging (20 * p), drop_meters ms rest p (omega arith), drop-cons ms p d low)
      (meter_in_bytes (get_or ms p d) (meters_bytes (drop (suc p) ms) ++ rest) fit)

  pub leaves-merging :
      (n : ℕ) → get_or s 0 0 ≡ 2 → get_or s 1 0 ≡ 4 → get_or s 6 0 ≡ 1
      → set (sets (merging s ms) 2 (four_bytes n)) 7 (length ms) ≡ leaves (record { meters = ms; allowance = n }) s
  leaves-merging n two four one = rw (take-drop 8 s 0 (omega arith), two, four, one)
