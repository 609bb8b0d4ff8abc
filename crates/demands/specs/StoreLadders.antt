-- The orders of document 02, 9/14, a ladder for each call of the settings store: specs/Rules says how a ladder is read,
-- specs/StoreCases what each case means, and sessions/specs/Changes what becomes of a meter (set_to, heard, next) and
-- of a store (with_meter, restored). The numbers are document 02's: 17 if empty, 18, the rest of 17; 19; 20; 21; 22; 4.
--     keeps s st o    the outcome o of a call that leaves the store st at the start of the memory s, and says its size
use Rattle.std.specs.Prelude.{true, List, ◌≡◌, ℕ, ◌+◌, ◌≤◌, ◌<◌, length, get_or, Result, Ok}
use Rattle.answers.specs.declared.Refusal.{Refusal}
use Rattle.answers.specs.Outcome.{Outcome}
use Rattle.frame.specs.declared.Format.{Format}
use Rattle.modes.specs.declared.Mode.{Mode}
use Rattle.modes.specs.Tables.{mode_of, format_of}
use Rattle.sessions.specs.declared.Meter.{Meter}
use Rattle.sessions.specs.Meters.{Store}
use Rattle.sessions.specs.Changes.{empty_store, with_meter, set_to, heard, next, restored}
use Rattle.sessions.specs.StoreFile.{size_of}
use Rattle.sessions.specs.StoreCalls.{leaves}
use Rattle.sessions.specs.Valid.{Within, IsFile}
use Rattle.demands.specs.Rules.{Rule, ◌when◌else◌, given, accept}
use Rattle.demands.specs.StoreCases.{HeldAs, Held, KnownAs, NoStore, NoFile, Unlisted, FullFor, newcomers}

abbrev pub keeps : List ℕ → Store → Outcome (Result ℕ Refusal) → Type 0
keeps s st o = o ≡ record { answer = Ok (size_of st); memory = leaves st s }

-- The memory that a store is kept in, in version 2: 17 if it has no byte, 18, 17, also where it has under 1,288 bytes.
abbrev pub store_steps : {B : Type 0} → List ℕ → (Store → Rule B) → Rule B
store_steps s rest =
    17 when length s ≡ 0
    else 18 when (get_or s 0 0 ≡ 2 → ⊥)
    else 17 when NoStore s
    else given (Within s) rest

-- A file, in version 1 or 2: 17 if empty, 18, 17.
abbrev pub file_steps : {B : Type 0} → List ℕ → (Store → Rule B) → Rule B
file_steps f rest =
    17 when length f ≡ 0
    else 18 when ((get_or f 0 0 ≡ 1 → ⊥) × (get_or f 0 0 ≡ 2 → ⊥))
    else 17 when NoFile f
    else given (IsFile f) rest

-- A meter that must be held: 19.
abbrev pub held_steps : {B : Type 0} → ℕ → Store → (Meter → Rule B) → Rule B
held_steps a st rest = 19 when (Held a st → ⊥) else given (HeldAs a st) rest

-- Making a store with no meter: 4.
abbrev pub empty_rule : List ℕ → Rule (Outcome (Result ℕ Refusal))
empty_rule s = 4 when length s < 1288 else accept (keeps s empty_store)

-- Adding a meter, held or not: the memory's, 22.
abbrev pub add_steps : ℕ → Mode → Format → List ℕ → Store → Rule (Outcome (Result ℕ Refusal))
add_steps a mode format s st =
    22 when FullFor a st
    else given (KnownAs a st) (λ m. accept (keeps s (with_meter a (set_to mode format m) st)))

abbrev pub add_rule : ℕ → Mode → Format → List ℕ → Rule (Outcome (Result ℕ Refusal))
add_rule a mode format s = store_steps s (add_steps a mode format s)

-- Mode and format by their numbers: 17 behind the memory's, where a number is not in its list.
abbrev pub add_by_rule : ℕ → ℕ → ℕ → List ℕ → Rule (Outcome (Result ℕ Refusal))
add_by_rule a k j s = store_steps s (λ st. 17 when Unlisted k j else add_steps a (mode_of k) (format_of j) s st)

-- Hearing a number from a meter: the memory's, 19. Issuing one for it: then 20, 21.
abbrev pub hear_rule : ℕ → ℕ → List ℕ → Rule (Outcome (Result ℕ Refusal))
hear_rule a n s = store_steps s (λ st. held_steps a st (λ m. accept (keeps s (with_meter a (heard n m) st))))

abbrev pub issue_steps : ℕ → List ℕ → Store → Meter → Rule (Outcome (Result ℕ Refusal))
issue_steps a s st m =
    20 when m.unsure ≡ true
    else 21 when 4294967295 ≤ m.number
    else accept (λ o.
    o ≡ record { answer = Ok (m.number + 1); memory = leaves (with_meter a (next m) st) s })

abbrev pub issue_rule : ℕ → List ℕ → Rule (Outcome (Result ℕ Refusal))
issue_rule a s = store_steps s (λ st. held_steps a st (issue_steps a s st))

-- Restoring a file: the memory's, the file's, 22 where the meters that are held and those that are new are over 64.
abbrev pub full_steps : List ℕ → Store → Store → Rule (Outcome (Result ℕ Refusal))
full_steps s st file =
    22 when 64 < length st.meters + length (newcomers st.meters file.meters)
    else accept (keeps s (record { meters = restored st.meters file.meters; allowance = file.allowance }))

abbrev pub restore_rule : List ℕ → List ℕ → Rule (Outcome (Result ℕ Refusal))
restore_rule f s = store_steps s (λ st. file_steps f (full_steps s st))

-- Writing the store into other memory, d: the memory's, 4.
abbrev pub write_store_rule : List ℕ → List ℕ → Rule (Outcome (Result ℕ Refusal))
write_store_rule s d = store_steps s (λ st. 4 when length d < size_of st else accept (keeps d st))

-- What is held of a meter: the memory's, 19. The position allowance, asked for and set: the memory's.
abbrev pub look_up_rule : ℕ → List ℕ → Rule (Result Meter Refusal)
look_up_rule a s = store_steps s (λ st. held_steps a st (λ m. accept (λ r. r ≡ Ok m)))

abbrev pub allowance_rule : List ℕ → Rule (Result ℕ Refusal)
allowance_rule s = store_steps s (λ st. accept (λ r. r ≡ Ok st.allowance))

abbrev pub set_allowance_rule : ℕ → List ℕ → Rule (Outcome (Result ℕ Refusal))
set_allowance_rule n s = store_steps s (λ st. accept (keeps s (record { meters = st.meters; allowance = n })))
