-- What each call makes of a store (document 02, 9/14), its refusals in their order.
--     meter_limit, last_number     64 meters; numbers stay below 2^32
--     empty_store                 no meter; the allowance that version 1 means
--     within st                  st, or 22 where it has too many meters
--     with_meter a m st           st with m for the meter a
--     set_to, heard, next, merged what a meter becomes: mode and format set; a number heard from it; a number issued
--                                for it; a file's entry for it restored. Added or restored meters that are not held
--                                come from a stranger: they start unsure, at number 0 or at the file's
--     added, hearing, issued, allowing    the calls
--     restored ms fs             the meters ms after those of a file, fs, one by one
--     restored_by file st         a restore: 22, else all of it
-- Not here: a meter cannot be removed; one that was added again would start at 0 and turn its numbers back.
use Rattle.std.specs.Prelude.{false, cond, not, List, [], ◌∷◌, ℕ, ◌+◌, max, leb, ltb, length, Result, Ok, Err}
use Rattle.answers.specs.declared.Refusal.{Refusal}
use Rattle.answers.specs.declared.Refusal.TheVariants.{NotHeld, Unsure, NumbersUsedUp, StoreFull}
use Rattle.frame.specs.declared.Format.{Format}
use Rattle.modes.specs.declared.Mode.{Mode}
use Rattle.sessions.specs.declared.Meter.{Meter}
use Rattle.sessions.specs.Meters.{Store, meter_of, holds, put}

abbrev pub meter_limit : ℕ
meter_limit = 64

abbrev pub last_number : ℕ
last_number = 4294967295

abbrev pub empty_store : Store
empty_store = record { meters = []; allowance = 16384 }

abbrev pub within : Store → Result Store Refusal
within st = cond (ltb meter_limit (length st.meters)) (Err StoreFull) (Ok st)

abbrev pub with_meter : ℕ → Meter → Store → Store
with_meter a m st = record { meters = put a m st.meters; allowance = st.allowance }

-- adding sets mode and format, and nothing else
abbrev pub set_to : Mode → Format → Meter → Meter
set_to mode format m =
    record { address = m.address; mode = mode; format = format; number = m.number; unsure = m.unsure }

-- hearing clears the mark and keeps the larger number
abbrev pub heard : ℕ → Meter → Meter
heard n m =
    record { address = m.address; mode = m.mode; format = m.format; number = max m.number n; unsure = false }

-- issuing adds one
abbrev pub next : Meter → Meter
next m =
    record { address = m.address; mode = m.mode; format = m.format; number = m.number + 1; unsure = m.unsure }

-- a restore keeps the store's own mark and the larger number; all else is the file's
abbrev pub merged : Meter → Meter → Meter
merged own m =
    record {
      address = m.address;
      mode = m.mode;
      format = m.format;
      number = max own.number m.number;
      unsure = own.unsure;
    }

abbrev pub added : ℕ → Mode → Format → Store → Result Store Refusal
added a mode format st = within (with_meter a (set_to mode format (meter_of a st.meters)) st)

abbrev pub hearing : ℕ → ℕ → Store → Result Store Refusal
hearing a n st =
    cond (not (holds a st.meters)) (Err NotHeld) (Ok (with_meter a (heard n (meter_of a st.meters)) st))

abbrev pub issued : ℕ → Store → Result Store Refusal
issued a st =
    let m = meter_of a st.meters in
    cond (not (holds a st.meters)) (Err NotHeld)
    (cond m.unsure (Err Unsure)
    (cond (leb last_number m.number) (Err NumbersUsedUp) (Ok (with_meter a (next m) st))))

abbrev pub allowing : ℕ → Store → Result Store Refusal
allowing n st = Ok (record { meters = st.meters; allowance = n })

unfoldable pub restored : List Meter → List Meter → List Meter
restored ms [] = ms
restored ms (m ∷ fs) = restored (put m.address (merged (meter_of m.address ms) m) ms) fs

abbrev pub restored_by : Store → Store → Result Store Refusal
restored_by file st =
    within (record { meters = restored st.meters file.meters; allowance = file.allowance })
