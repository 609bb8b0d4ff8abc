-- Worked examples, computed: the rules of document 02, 9/14, on small stores, and on both sides of their edges.
--     starts_unsure       an added meter starts unsure at number 0: none is issued for it
--     adding_held         adding a held one only sets mode and format
--     hearing_larger, hearing_smaller    hearing clears the mark and keeps the larger number
--     last_number, used_up               4294967295 is issued, and none after it
--     restored-running    a restore into a running collector, with a meter of each kind
--     restored_empty      a restore into an empty one: all are unsure
--     sixty_four, sixty_five             there is room for 64 meters, and for no more
--     issued_in_memory, told_in_memory   a history that begins with a new store in memory of zeros: the number issued
--                                        at its end, and those that it must be above
-- Assumes nothing.
use Rattle.std.specs.Prelude.{Ok, Err}
use mathlib.Core.Bool.{Bool, true, false}
use mathlib.Core.List.{List, [], ◌∷◌, ◌++◌}
use mathlib.Core.Path.{◌≡◌, refl}
use Prim.Native.Nat.{ℕ, zero, suc}
use lib.ListN.{replicate}
use Rattle.answers.specs.declared.Refusal.TheVariants.{Unsure, NumbersUsedUp, StoreFull}
use Rattle.frame.specs.declared.Format.{Format}
use Rattle.modes.specs.declared.Mode.{Mode}
use Rattle.sessions.specs.declared.Meter.{Meter}
use Rattle.sessions.specs.Meters.{Store, stranger, meter_of, holds, put}
use Rattle.sessions.specs.Changes.{empty_store, added, hearing, issued, restored, restored_by}
use Rattle.sessions.specs.StoreFile.{meters_bytes, meters_in, all_right, unlike}
use Rattle.sessions.specs.StoreCalls.{◌and_then◌, emptying, issuing}
use Rattle.sessions.specs.History.{Call, Add, Hear, Issue, Allow, after_all, told_by, over}

abbrev meter : ℕ → Mode → ℕ → Bool → Meter
meter a mode n unsure = record { address = a; mode = mode; format = Format.A; number = n; unsure = unsure }

abbrev holding : List Meter → Store
holding ms = record { meters = ms; allowance = 16384 }

pub starts_unsure : added 7 Mode.T Format.A empty_store and_then issued 7 ≡ Err Unsure
unfolding meter_of holds put
starts_unsure = refl

pub adding_held :
    added 7 Mode.S Format.A (holding (meter 7 Mode.T 10 false ∷ [])) ≡ Ok (holding (meter 7 Mode.S 10 false ∷ []))
unfolding meter_of put
adding_held = refl

pub hearing_larger :
    hearing 7 11 (holding (meter 7 Mode.T 10 true ∷ [])) ≡ Ok (holding (meter 7 Mode.T 11 false ∷ []))
unfolding meter_of holds put
hearing_larger = refl

pub hearing_smaller :
    hearing 7 9 (holding (meter 7 Mode.T 10 true ∷ [])) ≡ Ok (holding (meter 7 Mode.T 10 false ∷ []))
unfolding meter_of holds put
hearing_smaller = refl

pub last_number :
    issued 7 (holding (meter 7 Mode.T 4294967294 false ∷ [])) ≡ Ok (holding (meter 7 Mode.T 4294967295 false ∷ []))
unfolding meter_of holds put
last_number = refl

pub used_up : issued 7 (holding (meter 7 Mode.T 4294967295 false ∷ [])) ≡ Err NumbersUsedUp
unfolding meter_of holds put
used_up = refl

-- 1 is sure and has the larger number, 2 is unsure and has the smaller, 3 is not in the file, 4 is not held
pub restored-running :
    restored_by (holding (meter 4 Mode.C 9 false ∷ meter 2 Mode.C 8 false ∷ meter 1 Mode.C 7 true ∷ []))
    (holding (meter 1 Mode.T 10 false ∷ meter 2 Mode.T 5 true ∷ meter 3 Mode.T 6 false ∷ []))
    ≡ Ok
    (holding (meter 1 Mode.C 10 false ∷ meter 2 Mode.C 8 true ∷ meter 3 Mode.T 6 false ∷ meter 4 Mode.C 9 true ∷ []))
unfolding meter_of put restored
restored-running = refl

pub restored_empty :
    restored_by (holding (meter 1 Mode.T 10 false ∷ meter 2 Mode.C 8 true ∷ [])) empty_store
    ≡ Ok (holding (meter 1 Mode.T 10 true ∷ meter 2 Mode.C 8 true ∷ []))
unfolding meter_of put restored
restored_empty = refl

-- the meters n, .., 1
abbrev many : ℕ → List Meter
many zero = []
many (suc n) = stranger (suc n) ∷ many n

pub sixty_four : added 0 Mode.R Format.A (holding (many 63)) ≡ Ok (holding (many 63 ++ (stranger 0 ∷ [])))
unfolding meter_of put
sixty_four = refl

pub sixty_five : added 0 Mode.R Format.A (holding (many 64)) ≡ Err StoreFull
unfolding meter_of put
sixty_five = refl

abbrev fresh : List ℕ
fresh = (emptying (replicate 1288 0)).memory

abbrev history : List Call
history = Hear 7 9 ∷ Issue 7 ∷ Add 7 Mode.T Format.A ∷ Issue 7 ∷ Hear 7 5 ∷ Issue 7 ∷ Allow 3 ∷ Hear 7 4 ∷ []

pub issued_in_memory : (issuing 7 (after_all fresh history)).answer ≡ Ok 7
unfolding meter_of holds put meters_bytes meters_in all_right unlike after_all
issued_in_memory = refl

pub told_in_memory : over (told_by 7) fresh history ≡ 5 ∷ 6 ∷ 4 ∷ []
unfolding meter_of holds put meters_bytes meters_in all_right unlike over
told_in_memory = refl
