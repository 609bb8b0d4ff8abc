-- The store as bytes (document 02, 9/14, "On disk"): the version, then fields, each behind one byte with its length,
-- numbers with the highest byte first.
--     mark_of unsure        the unsure mark
--     meter_bytes m         a meter: M and A, mode, format, number, unsure mark; twenty bytes
--     meters_bytes ms       one behind the other
--     bytes_of st           version 2: allowance, meter count, the meters
--     version_one ms        version 1: meter count, the meters; it has no allowance and means 16,384
--     size_of st            how many bytes version 2 has
--     meter_in s            the meter in the first twenty bytes of s
--     meters_in n s         the n meters at the start of s
--     right_meter s         whether these twenty bytes are a meter: every length byte, every value in its list
--     unlike ms fs         whether no meter of fs stands before, in ms or in fs
--     all_right n s         whether n meters stand at the start of s
--     right_count k s       whether the count stands at place k of s, is at most 64, and bytes for so many meters
--                           follow
--     right_body k s        whether, besides, they are meters, none of them twice
--     whole k s            whether s ends with them
--     store_in k allowance s    the store that they are
--     if_right ok st        st if it is right, else 17
--     file_of s             reading a file: 17 if empty, 18, 17
--     memory_size           bytes of memory that a store is kept in: as many as the largest store has
--     memory_of s           the store that memory s holds at its start, in version 2: 17 if s has no byte, 18, 17
use Rattle.std.specs.Prelude.{Bool, true, cond, not, ◌&&◌, List, [], ◌∷◌, ◌++◌, ℕ, zero, suc, ◌+◌, ◌*◌, eqb, leb, ltb, length, get_or, drop, Result, Ok, Err}
use Rattle.answers.specs.declared.Refusal.{Refusal}
use Rattle.answers.specs.declared.Refusal.TheVariants.{BadStore, UnknownVersion}
use Rattle.modes.specs.Tables.{mode_number, mode_of, format_number, format_of}
use Rattle.address.specs.Keys.{four_bytes, four_at, key_bytes, key_at}
use Rattle.sessions.specs.declared.Meter.{Meter}
use Rattle.sessions.specs.Meters.{Store, holds}
use Rattle.sessions.specs.Changes.{meter_limit}

abbrev pub mark_of : Bool → ℕ
mark_of unsure = cond unsure 1 0

abbrev pub meter_bytes : Meter → List ℕ
meter_bytes m =
    (8 ∷ key_bytes m.address) ++ ((1 ∷ mode_number m.mode ∷ []) ++ ((1 ∷ format_number m.format ∷ [])
    ++ ((4 ∷ four_bytes m.number) ++ (1 ∷ mark_of m.unsure ∷ []))))

unfoldable pub meters_bytes : List Meter → List ℕ
meters_bytes [] = []
meters_bytes (m ∷ ms) = meter_bytes m ++ meters_bytes ms

abbrev pub bytes_of : Store → List ℕ
bytes_of st = (2 ∷ 4 ∷ four_bytes st.allowance) ++ (1 ∷ length st.meters ∷ meters_bytes st.meters)

abbrev pub version_one : List Meter → List ℕ
version_one ms = 1 ∷ 1 ∷ length ms ∷ meters_bytes ms

abbrev pub size_of : Store → ℕ
size_of st = 8 + 20 * length st.meters

abbrev pub meter_in : List ℕ → Meter
meter_in s =
    record {
      address = key_at s 1;
      mode = mode_of (get_or s 10 0);
      format = format_of (get_or s 12 0);
      number = four_at s 14;
      unsure = eqb (get_or s 19 0) 1;
    }

unfoldable pub meters_in : ℕ → List ℕ → List Meter
meters_in zero s = []
meters_in (suc n) s = meter_in s ∷ meters_in n (drop 20 s)

abbrev pub right_meter : List ℕ → Bool
right_meter s =
    eqb (get_or s 0 0) 8 && (eqb (get_or s 9 0) 1 && (ltb (get_or s 10 0) 6 && (eqb (get_or s 11 0) 1
    && (ltb (get_or s 12 0) 2 && (eqb (get_or s 13 0) 4 && (eqb (get_or s 18 0) 1 && ltb (get_or s 19 0) 2))))))

unfoldable pub unlike : List Meter → List Meter → Bool
unlike ms [] = true
unlike ms (m ∷ fs) = not (holds m.address ms) && unlike (ms ++ (m ∷ [])) fs

unfoldable pub all_right : ℕ → List ℕ → Bool
all_right zero s = true
all_right (suc n) s = right_meter s && all_right n (drop 20 s)

abbrev pub right_count : ℕ → List ℕ → Bool
right_count k s =
    eqb (get_or s k 0) 1 && (leb (get_or s (k + 1) 0) meter_limit && leb (k + 2 + 20 * get_or s (k + 1) 0) (length s))

abbrev pub right_body : ℕ → List ℕ → Bool
right_body k s =
    let n = get_or s (k + 1) 0 in
    let t = drop (k + 2) s in
    right_count k s && (all_right n t && unlike [] (meters_in n t))

abbrev pub store_in : ℕ → ℕ → List ℕ → Store
store_in k allowance s = record { meters = meters_in (get_or s (k + 1) 0) (drop (k + 2) s); allowance = allowance }

abbrev pub whole : ℕ → List ℕ → Bool
whole k s = eqb (length s) (k + 2 + 20 * get_or s (k + 1) 0)

abbrev pub if_right : Bool → Store → Result Store Refusal
if_right ok st = cond ok (Ok st) (Err BadStore)

abbrev pub file_of : List ℕ → Result Store Refusal
file_of s =
    cond (eqb (length s) 0) (Err BadStore)
    (cond (eqb (get_or s 0 0) 2)
    (if_right (eqb (get_or s 1 0) 4 && (right_body 6 s && whole 6 s)) (store_in 6 (four_at s 2) s))
    (cond (eqb (get_or s 0 0) 1) (if_right (right_body 1 s && whole 1 s) (store_in 1 16384 s)) (Err UnknownVersion)))

abbrev pub memory_size : ℕ
memory_size = 1288

abbrev pub memory_of : List ℕ → Result Store Refusal
memory_of s =
    cond (eqb (length s) 0) (Err BadStore)
    (cond (not (eqb (get_or s 0 0) 2)) (Err UnknownVersion)
    (if_right (leb memory_size (length s) && (eqb (get_or s 1 0) 4 && right_body 6 s)) (store_in 6 (four_at s 2) s)))
