-- What the inner functions of the store cite.
--     place_of a ms       the place of the meter a among ms; how many they are where it is none of them
--     FoundAt found n p   the place p, if it is one of n
--     address_at s first j        the address of the j-th meter of s, whose meters begin at `first`
--     slot_of a           the slot of a meter in the table that makes a search short
--     last_with s first h k       one more than the place of the last of the first k meters whose slot is h; 0 without
--                                one
--     Indexed slots links s first k    the table of the first k meters: for each slot the last meter in it, for each
--                                meter the one before it in its slot
--     held_by r           how many meters are held, or the refusal
--     known_at s count place a    the meter at a place of the memory s, or a stranger where it has no such place
--     MetersFrom first n s       n meters stand in s from `first` on, none of them twice
--     first_of file, allowance_of file    where the meters of a file begin, and its allowance
--     restored_to s count file first i    the meters of the memory s after the first i of a file
--     placed_in places s count file first n    where each of the file's first n meters is to stand, in bytes
--     Planned s count file first n places    these are the places, and the memory s has room for all meters then
--     merging s ms       the memory s with the meters ms for its own
use Rattle.std.specs.Prelude.{true, cond, List, [], ◌∷◌, ◌++◌, ◌≡◌, ℕ, zero, suc, ◌+◌, ◌*◌, ◌%◌, ◌<◌, ◌≤◌, eqb, ltb, length, get_or, take, drop, Result, Ok, Err, Option, MatchOption}
use Rattle.address.specs.Keys.{four_at, key_at}
use Rattle.ground.specs.Bytes.{Bytes}
use Rattle.sessions.specs.declared.Meter.{Meter}
use Rattle.answers.specs.declared.Refusal.{Refusal}
use Rattle.sessions.specs.Meters.{stranger, Store}
use Rattle.sessions.specs.Changes.{restored}
use Rattle.sessions.specs.StoreFile.{meters_bytes, meter_in, meters_in, all_right, unlike}

unfoldable pub place_of : ℕ → List Meter → ℕ
place_of a [] = 0
place_of a (m ∷ ms) = cond (eqb m.address a) 0 (suc (place_of a ms))

-- p is the place where one of n is found; without one it is n
abbrev pub FoundAt : Option ℕ → ℕ → ℕ → Type 0
FoundAt found n p = MatchOption found (n ≡ p) (λ q. (q < n) × (q ≡ p))

abbrev pub address_at : List ℕ → ℕ → ℕ → ℕ
address_at s first j = key_at s (first + 20 * j + 1)

abbrev pub slot_of : ℕ → ℕ
slot_of a = a % 509

unfoldable pub last_with : List ℕ → ℕ → ℕ → ℕ → ℕ
last_with s first h zero = 0
last_with s first h (suc k) = cond (eqb (slot_of (address_at s first k)) h) (suc k) (last_with s first h k)

pub record Indexed (slots links s : List ℕ) (first k : ℕ) : Type 0 where
  pub of_slot : (h : ℕ) → h < 509 → get_or slots h 0 ≡ last_with s first h k
  pub of_meter : (j : ℕ) → j < k → get_or links j 0 ≡ last_with s first (slot_of (address_at s first j)) j

abbrev pub held_by : Result Store Refusal → Result ℕ Refusal
held_by (Err why) = Err why
held_by (Ok st) = Ok (length st.meters)

abbrev pub known_at : List ℕ → ℕ → ℕ → ℕ → Meter
known_at s count place a = cond (ltb place count) (meter_in (drop (8 + 20 * place) s)) (stranger a)

pub record MetersFrom (first n : ℕ) (s : List ℕ) : Type 0 where
  pub few : n ≤ 64
  pub room : first + 20 * n ≤ length s
  pub right : all_right n (drop first s) ≡ true
  pub once : unlike [] (meters_in n (drop first s)) ≡ true

abbrev pub first_of : List ℕ → ℕ
first_of file = cond (eqb (get_or file 0 0) 2) 8 3

abbrev pub allowance_of : List ℕ → ℕ
allowance_of file = cond (eqb (get_or file 0 0) 2) (four_at file 2) 16384

abbrev pub restored_to : List ℕ → ℕ → List ℕ → ℕ → ℕ → List Meter
restored_to s count file first i = restored (meters_in count (drop 8 s)) (meters_in i (drop first file))

abbrev pub placed_in : List ℕ → List ℕ → ℕ → List ℕ → ℕ → ℕ → Type 0
placed_in places s count file first n =
    (j : ℕ) → j < n → get_or places j 0 ≡ place_of (address_at file first j) (restored_to s count file first j)

pub record Planned (s : List ℕ) (count : ℕ) (file : List ℕ) (first n : ℕ) (places : List ℕ) : Type 0 where
  pub bytes : Bytes s
  pub own : MetersFrom 8 count s
  pub room : 1288 ≤ length s
  pub few : length (restored_to s count file first n) ≤ 64
  pub placed : placed_in places s count file first n

abbrev pub merging : List ℕ → List Meter → List ℕ
merging s ms = take 8 s ++ (meters_bytes ms ++ drop (8 + 20 * length ms) s)
