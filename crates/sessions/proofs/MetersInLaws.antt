-- Meters one behind the other (specs/StoreFile), written and read back, and a walk over them from the first.
--     meters_in_bytes, all_right_bytes    the meters that are read where they were written, and that they are meters
--     take-meters_bytes                  the bytes of meters that were read are those that stood there
--     length-meters_in, get_or-meters_in    n meters, the one at place i from byte 20 i on
--     right_meter_at                     where all are meters, the one at place i is
--     meters_in-suc, all_right-suc        one more
--     take-meters_in                     the first i of them
-- Assumes nothing.
use mathlib.Core.Bool.{Bool, true, ◌&&◌, and-true, and_assoc}
use mathlib.Core.List.{List, [], ◌∷◌, ◌++◌}
use mathlib.Core.Path.{◌≡◌, refl, ap, sym, ◌∙◌}
use Prim.Native.Nat.{ℕ, zero, suc, ◌+◌, ◌*◌, ◌<◌, ◌≤◌}
use native.Mathlib.Omega.{arith}
use lib.ListN.{length, get_or, take, drop, length-drop}
use lib.Seq.{take-add, drop-drop}
use Rattle.ground.specs.Bytes.{Bytes}
use Rattle.ground.proofs.ByteLaws.{bytes_drop}
use Rattle.ground.proofs.CaseLaws.{and_left, and_right}
use Rattle.sessions.specs.declared.Meter.{Meter}
use Rattle.sessions.specs.Meters.{stranger}
use Rattle.sessions.specs.StoreFile.{meters_bytes, meter_in, meters_in, right_meter, all_right}
use Rattle.sessions.specs.Valid.{Fits}
use Rattle.sessions.proofs.MeterBytesLaws.{meter_in_bytes, right_meter_bytes, take-meter_bytes}

pub meters_in_bytes :
    (ms : List Meter) (rest : List ℕ) → ((i : ℕ) → i < length ms → Fits (get_or ms i (stranger 0)))
    → meters_in (length ms) (meters_bytes ms ++ rest) ≡ ms
unfolding meters_in meters_bytes
meters_in_bytes [] rest fit = refl
meters_in_bytes (m ∷ ms) rest fit =
    let head = meter_in_bytes m (meters_bytes ms ++ rest) (fit 0 (omega arith)) in
    let tail = meters_in_bytes ms rest (λ i h. fit (suc i) (omega arith)) in
    cc

pub all_right_bytes : (ms : List Meter) (rest : List ℕ) → all_right (length ms) (meters_bytes ms ++ rest) ≡ true
unfolding all_right meters_bytes
all_right_bytes [] rest = refl
all_right_bytes (m ∷ ms) rest = rw (right_meter_bytes m (meters_bytes ms ++ rest)) (all_right_bytes ms rest)

drop_next : (i : ℕ) (s : List ℕ) → drop (20 * i) (drop 20 s) ≡ drop (20 * suc i) s
drop_next i s =
    let e : 20 + 20 * i ≡ 20 * suc i = omega arith in
    rw (drop-drop (20 * i) 20 s, e)

take_next : (i : ℕ) (s : List ℕ) → take (20 * suc i) s ≡ take 20 s ++ take (20 * i) (drop 20 s)
take_next i s =
    let e : 20 * suc i ≡ 20 + 20 * i = omega arith in
    rw e (take-add 20 (20 * i) s)

pub take-meters_bytes :
    (n : ℕ) (s : List ℕ) → Bytes s → 20 * n ≤ length s → all_right n s ≡ true
    → take (20 * n) s ≡ meters_bytes (meters_in n s)
unfolding all_right meters_bytes meters_in
take-meters_bytes zero s bytes room right = refl
take-meters_bytes (suc n) s bytes room right =
    let rest = and_right (right_meter s) _ right in
    let tail = take-meters_bytes n (drop 20 s) (bytes_drop 20 s bytes) (omega (arith, length-drop 20 s)) rest in
    let head = take-meter_bytes s bytes (omega arith) (and_left _ _ right) in
    rw (take_next n s, head, tail)

pub length-meters_in : (n : ℕ) (s : List ℕ) → length (meters_in n s) ≡ n
unfolding meters_in
length-meters_in zero s = refl
length-meters_in (suc n) s = ap suc (length-meters_in n (drop 20 s))

pub get_or-meters_in :
    (n : ℕ) (s : List ℕ) (i : ℕ) (d : Meter) → i < n → get_or (meters_in n s) i d ≡ meter_in (drop (20 * i) s)
unfolding meters_in
get_or-meters_in zero s i d h = absurd (omega arith)
get_or-meters_in (suc n) s zero d h = refl
get_or-meters_in (suc n) s (suc i) d h = get_or-meters_in n (drop 20 s) i d (omega arith) ∙ ap meter_in (drop_next i s)

pub right_meter_at : (n : ℕ) (s : List ℕ) (i : ℕ) → all_right n s ≡ true → i < n → right_meter (drop (20 * i) s) ≡ true
unfolding all_right
right_meter_at zero s i right h = absurd (omega arith)
right_meter_at (suc n) s zero right h = and_left _ _ right
right_meter_at (suc n) s (suc i) right h =
    sym (ap right_meter (drop_next i s))
    ∙ right_meter_at n (drop 20 s) i (and_right (right_meter s) _ right) (omega arith)

pub meters_in-suc : (i : ℕ) (s : List ℕ) → meters_in (suc i) s ≡ meters_in i s ++ (meter_in (drop (20 * i) s) ∷ [])
unfolding meters_in
meters_in-suc zero s = refl
meters_in-suc (suc i) s =
    ap (λ (ms : List Meter). meter_in s ∷ ms)
    (meters_in-suc i (drop 20 s) ∙ ap (λ (t : List ℕ). meters_in i (drop 20 s) ++ (meter_in t ∷ [])) (drop_next i s))

pub all_right-suc : (i : ℕ) (s : List ℕ) → all_right (suc i) s ≡ all_right i s && right_meter (drop (20 * i) s)
unfolding all_right
all_right-suc zero s = and-true (right_meter s)
all_right-suc (suc i) s =
    ap (λ (b : Bool). right_meter s && b)
    (all_right-suc i (drop 20 s) ∙ ap (λ (t : List ℕ). all_right i (drop 20 s) && right_meter t) (drop_next i s))
    ∙ sym (and_assoc (right_meter s) (all_right i (drop 20 s)) (right_meter (drop (20 * suc i) s)))

pub take-meters_in : (i n : ℕ) (s : List ℕ) → i ≤ n → take i (meters_in n s) ≡ meters_in i s
unfolding meters_in
take-meters_in zero n s h = refl
take-meters_in (suc i) zero s h = absurd (omega arith)
take-meters_in (suc i) (suc n) s h =
    ap (λ (ms : List Meter). meter_in s ∷ ms) (take-meters_in i n (drop 20 s) (omega arith))
