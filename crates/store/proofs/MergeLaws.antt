-- The file's meters brought to their places in the memory, one by one.
--     Merge            what is known where this begins
--     room_at          memory has room for the meters at each step
--     place-lt         the next one's place is one of the 64
--     merge_held, merge_new    its bytes at its place: one that is held, and one that is not
-- Assumes nothing.
use mathlib.Core.Bool.{true}
use mathlib.Core.List.{List, [], ◌∷◌, ◌++◌}
use mathlib.Core.Path.{◌≡◌, ◌∙◌, ap, sym}
use Prim.Native.Nat.{ℕ, suc, ◌+◌, ◌*◌, ◌≤◌, ◌<◌, max}
use native.Mathlib.Omega.{arith}
use lib.ListN.{length, take, drop, length-drop}
use lib.Seq.{sets, drop-drop, take-take}
use Rattle.ground.specs.Bytes.{Bytes}
use Rattle.ground.proofs.ByteLaws.{bytes_drop}
use Rattle.address.proofs.KeyLaws.{key_at_lt}
use Rattle.sessions.specs.declared.Meter.{Meter}
use Rattle.sessions.specs.Meters.{stranger, meter_of}
use Rattle.sessions.specs.Changes.{merged}
use Rattle.sessions.specs.StoreFile.{meter_bytes, meter_in, meters_in, right_meter}
use Rattle.sessions.proofs.MeterBytesLaws.{take-meter_bytes}
use Rattle.sessions.proofs.MetersInLaws.{right_meter_at, length-meters_in}
use Rattle.sessions.proofs.PutValidLaws.{AllFit, all_fit_meter_of}
use Rattle.sessions.proofs.PutLaws.{meter_of-stranger}
use Rattle.store.specs.Inner.{place_of, address_at, restored_to, MetersFrom, merging}
use Rattle.store.proofs.MeterAtLaws.{key_at_drop}
use Rattle.store.proofs.PlaceLaws.{meter_of_place_of}
use Rattle.store.proofs.MergingLaws.{merging_put, meter_in-merging}
use Rattle.store.proofs.RestoredToLaws.{length-restored-le, length-restored_to-le, restored_to-suc, all_fit_restored_to, place_of_next_lt, new_before}

max_none : (n : ℕ) → max 0 n ≡ n
max_none n = omega arith

-- the bytes of a meter that was not held
unsure_bytes :
    (t : List ℕ) → Bytes t → 20 ≤ length t → right_meter t ≡ true
    → take 19 t ++ (1 ∷ []) ≡ meter_bytes (merged (stranger (meter_in t).address) (meter_in t))
unsure_bytes t bytes room right =
    rw (take-take 19 20 t (omega arith)) at
    (ap (λ (u : List ℕ). take 19 u ++ (1 ∷ [])) (take-meter_bytes t bytes room right))
    ∙ rw (max_none (meter_in t).number)

pub record Merge (s : List ℕ) (count : ℕ) (file : List ℕ) (first n : ℕ) : Type 0 where
  pub theirs : MetersFrom first n file
  pub room : 1288 ≤ length s
  pub few : length (restored_to s count file first n) ≤ 64
  pub bytes : Bytes s
  pub file_bytes : Bytes file

module _ {s : List ℕ} {count : ℕ} {file : List ℕ} {first n : ℕ} (m : Merge s count file first n) (i : ℕ) where
  pub room_at : i ≤ n → 8 + 20 * length (restored_to s count file first i) ≤ length s
  room_at low = omega (arith, m.room, m.few, length-restored_to-le s count file first i n low)

  module _ (low : i < n) where
    pub place-lt : place_of (address_at file first i) (restored_to s count file first i) < 64
    place-lt =
        let grows = length-restored_to-le s count file first (suc i) n (omega arith) in
        omega (arith, m.few, grows, place_of_next_lt s count file first i)

    right_at : right_meter (drop (first + 20 * i) file) ≡ true
    right_at =
        ap right_meter (sym (drop-drop (20 * i) first file))
        ∙ right_meter_at n (drop first file) i m.theirs.right low

    all_fit : AllFit (restored_to s count file first i)
    all_fit = all_fit_restored_to s count file first i m.bytes m.file_bytes

    held-lt : {p : ℕ} → p < count → p < length (restored_to s count file first i)
    held-lt held =
        let ms = meters_in count (drop 8 s) in
        omega (arith, length-meters_in count (drop 8 s), length-restored-le ms (meters_in i (drop first file)))

    meter_in_held :
        place_of (address_at file first i) (restored_to s count file first i) < count
        → let R = restored_to s count file first i in
        let a = address_at file first i in
        meter_in (drop (8 + 20 * place_of a R) (merging s R)) ≡ meter_of a R
    meter_in_held held =
        let a = address_at file first i in
        let R = restored_to s count file first i in
        let known = meter_of_place_of a R in
        let fit = rw known at (all_fit_meter_of a R (key_at_lt file m.file_bytes (first + 20 * i + 1)) all_fit) in
        meter_in-merging s R (room_at (omega arith)) (place_of a R) (stranger a) (held-lt held) fit ∙ sym known

    stranger_new : count ≤ place_of (address_at file first i) (restored_to s count file first i)
        → stranger (meter_in (drop (first + 20 * i) file)).address
        ≡ meter_of (address_at file first i) (restored_to s count file first i)
    stranger_new new =
        let a = address_at file first i in
        let R = restored_to s count file first i in
        ap stranger (key_at_drop file (first + 20 * i) 1)
        ∙ sym (meter_of-stranger a R (new_before s count file first i m.theirs low new))

    -- the memory so far, and the place
    module _
        {t : List ℕ}
        {p : ℕ}
        (so_far : t ≡ merging s (restored_to s count file first i))
        (placed : p ≡ place_of (address_at file first i) (restored_to s count file first i))
      where
        merge_next :
            (own : Meter) → own ≡ meter_of (address_at file first i) (restored_to s count file first i)
            → sets t (8 + 20 * p) (meter_bytes (merged own (meter_in (drop (first + 20 * i) file))))
            ≡ merging s (restored_to s count file first (suc i))
        merge_next own is =
            let a = address_at file first i in
            let R = restored_to s count file first i in
            let new = merged own (meter_in (drop (first + 20 * i) file)) in
            ap (λ (u : List ℕ). sets u (8 + 20 * p) (meter_bytes new)) so_far
            ∙ (ap (λ (k : ℕ). sets (merging s R) (8 + 20 * k) (meter_bytes new)) placed
            ∙ (merging_put s R (room_at (omega arith)) a new (omega (arith, m.room, place-lt))
            ∙ ap (merging s) (rw is (sym (restored_to-suc s count file first i)))))

        pub merge_held : p < count → let own = meter_in (drop (8 + 20 * p) t) in
            sets t (8 + 20 * p) (meter_bytes (merged own (meter_in (drop (first + 20 * i) file))))
            ≡ merging s (restored_to s count file first (suc i))
        merge_held held =
            let R = restored_to s count file first i in
            merge_next (meter_in (drop (8 + 20 * p) t))
            (ap (λ (u : List ℕ). meter_in (drop (8 + 20 * p) u)) so_far
            ∙ (ap (λ (k : ℕ). meter_in (drop (8 + 20 * k) (merging s R))) placed ∙ meter_in_held (omega arith)))

        pub merge_new :
            count ≤ p
            → sets t (8 + 20 * p) (take 19 (drop (first + 20 * i) file) ++ (1 ∷ []))
            ≡ merging s (restored_to s count file first (suc i))
        merge_new new =
            let at = first + 20 * i in
            let room : 20 ≤ length (drop at file) = omega (arith, length-drop at file, m.theirs.room) in
            ap (sets t (8 + 20 * p)) (unsure_bytes (drop at file) (bytes_drop at file m.file_bytes) room right_at)
            ∙ merge_next (stranger (meter_in (drop at file)).address) (stranger_new (omega arith))
