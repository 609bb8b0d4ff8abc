-- The calls on the memory that a store is kept in (document 02, 9/14). Each reads the memory, does its one thing and
-- leaves the store in version 2 at the memory's start; what stands behind it stays. A refusal leaves all of it.
--     r and_then call          a refusal, or what the call makes of the store
--     leaves st s             the memory s with the store st at its start
--     kept refused told s r   the outcome of a call on the memory s that came to r
--     storing call s          a call that answers how many bytes the store has then
--     emptying, adding, .., writing_store, looking_up, allowance_in    the calls
use Rattle.std.specs.Prelude.{cond, ◌||◌, List, ◌++◌, ℕ, ltb, length, drop, Result, Ok, Err}
use Rattle.answers.specs.Outcome.{Outcome, leaving}
use Rattle.answers.specs.declared.Refusal.{Refusal}
use Rattle.answers.specs.declared.Refusal.TheVariants.{NoRoom, NotHeld, BadStore}
use Rattle.frame.specs.declared.Format.{Format}
use Rattle.modes.specs.declared.Mode.{Mode}
use Rattle.modes.specs.Tables.{mode_of, format_of}
use Rattle.sessions.specs.declared.Meter.{Meter}
use Rattle.sessions.specs.Meters.{Store, meter_of, holds}
use Rattle.sessions.specs.Changes.{empty_store, added, hearing, issued, allowing, restored_by}
use Rattle.sessions.specs.StoreFile.{bytes_of, size_of, file_of, memory_size, memory_of}

infixl 20 ◌and_then◌
abbrev pub ◌and_then◌ : Result Store Refusal → (Store → Result Store Refusal) → Result Store Refusal
Err why and_then call = Err why
Ok st and_then call = call st

abbrev pub leaves : Store → List ℕ → List ℕ
leaves st s = bytes_of st ++ drop (size_of st) s

abbrev pub kept : {A : Type 0} → (Refusal → A) → (Store → A) → List ℕ → Result Store Refusal → Outcome A
kept refused told s (Err why) = leaving (refused why) s
kept refused told s (Ok st) = record { answer = told st; memory = leaves st s }

abbrev pub storing : (Store → Result Store Refusal) → List ℕ → Outcome (Result ℕ Refusal)
storing call s = kept Err (λ st. Ok (size_of st)) s (memory_of s and_then call)

abbrev pub emptying : List ℕ → Outcome (Result ℕ Refusal)
emptying s =
    cond (ltb (length s) memory_size) (leaving (Err NoRoom) s)
    (record { answer = Ok (size_of empty_store); memory = leaves empty_store s })

abbrev pub adding : ℕ → Mode → Format → List ℕ → Outcome (Result ℕ Refusal)
adding a mode format s = storing (added a mode format) s

-- mode and format by their numbers in Tables 64 and 65; one that is outside its list is malformed
abbrev pub added_by : ℕ → ℕ → ℕ → Store → Result Store Refusal
added_by a k j st = cond (ltb 5 k || ltb 1 j) (Err BadStore) (added a (mode_of k) (format_of j) st)

abbrev pub adding_by : ℕ → ℕ → ℕ → List ℕ → Outcome (Result ℕ Refusal)
adding_by a k j s = storing (λ st. added_by a k j st) s

abbrev pub hearing_in : ℕ → ℕ → List ℕ → Outcome (Result ℕ Refusal)
hearing_in a n s = storing (hearing a n) s

-- the number issued is the one that then stands in the store
abbrev pub issuing : ℕ → List ℕ → Outcome (Result ℕ Refusal)
issuing a s =
    kept Err (λ st. Ok (meter_of a st.meters).number) s (memory_of s and_then issued a)

abbrev pub restoring : List ℕ → List ℕ → Outcome (Result ℕ Refusal)
restoring file s = storing (λ st. file_of file and_then (λ backup. restored_by backup st)) s

abbrev pub setting_allowance : ℕ → List ℕ → Outcome (Result ℕ Refusal)
setting_allowance n s = storing (allowing n) s

-- the store's bytes into other memory, d
abbrev pub copied : Result Store Refusal → List ℕ → Outcome (Result ℕ Refusal)
copied (Err why) d = leaving (Err why) d
copied (Ok st) d =
    cond (ltb (length d) (size_of st)) (leaving (Err NoRoom) d)
    (record { answer = Ok (size_of st); memory = leaves st d })

abbrev pub writing_store : List ℕ → List ℕ → Outcome (Result ℕ Refusal)
writing_store s d = copied (memory_of s) d

abbrev pub found : ℕ → Result Store Refusal → Result Meter Refusal
found a (Err why) = Err why
found a (Ok st) = cond (holds a st.meters) (Ok (meter_of a st.meters)) (Err NotHeld)

abbrev pub looking_up : ℕ → List ℕ → Result Meter Refusal
looking_up a s = found a (memory_of s)

abbrev pub allowed : Result Store Refusal → Result ℕ Refusal
allowed (Err why) = Err why
allowed (Ok st) = Ok st.allowance

abbrev pub allowance_in : List ℕ → Result ℕ Refusal
allowance_in s = allowed (memory_of s)
