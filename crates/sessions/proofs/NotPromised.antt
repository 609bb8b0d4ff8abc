-- What the store does NOT promise (specs/History), each by an example that is computed. In all of them a number
-- of the meter 1 comes twice, and no call has done anything wrong: what happened was not in the store that was asked.
--     before_cut, after_cut        a number that was issued, and not saved before the power failed, is issued again
--     before_loss, after_loss      so is one that was issued after the backup, if the store is lost and the backup is
--                                  restored into an empty one; a number heard does not help that is below it
--     not_held, not_remembered     a number heard from a meter that is not held is refused and not kept
--     heard_then_cut               a number that was heard and not saved is not kept either
-- Hence: save the store before a number that was issued is used, and after one was heard; hear the meter's last number
-- after a restore; add a meter before it is heard. Assumes nothing.
use Rattle.std.specs.Prelude.{Ok, Err}
use mathlib.Core.Bool.{Bool, false}
use mathlib.Core.List.{[], ◌∷◌, ◌++◌}
use mathlib.Core.Path.{◌≡◌, refl}
use Prim.Native.Nat.{ℕ}
use lib.ListN.{replicate}
use Rattle.answers.specs.declared.Refusal.TheVariants.{NotHeld}
use Rattle.frame.specs.declared.Format.{Format}
use Rattle.modes.specs.declared.Mode.{Mode}
use Rattle.sessions.specs.Meters.{Store, meter_of, holds, put}
use Rattle.sessions.specs.Changes.{empty_store, added, hearing, issued, restored, restored_by}
use Rattle.sessions.specs.StoreFile.{bytes_of, memory_of, meters_bytes, meters_in, all_right, unlike}
use Rattle.sessions.specs.StoreCalls.{◌and_then◌}

-- a store with the meter 1 alone, its last number and its unsure mark
abbrev holding : ℕ → Bool → Store
holding n unsure =
    record {
      meters = record { address = 1; mode = Mode.R; format = Format.A; number = n; unsure = unsure } ∷ [];
      allowance = 16384;
    }

-- A power cut between issuing and saving. The store was saved with the number 10; then 11 is issued.
pub before_cut : issued 1 (holding 10 false) ≡ Ok (holding 11 false)
unfolding meter_of holds put
before_cut = refl

-- The power fails, and the saved bytes are put into memory again, zeros behind them: 11 is issued a second time.
pub after_cut :
    memory_of (bytes_of (holding 10 false) ++ replicate 1260 0) and_then issued 1 ≡ Ok (holding 11 false)
unfolding meter_of holds put meters_bytes meters_in all_right unlike
after_cut = refl

-- The same with a number that was heard, 1000, and not saved: the store goes on above it, but the saved one issues 11.
pub heard_then_cut : hearing 1 1000 (holding 10 false) and_then issued 1 ≡ Ok (holding 1001 false)
unfolding meter_of holds put
heard_then_cut = refl

-- A backup that is older than the store. It has the number 11; the store goes on and issues 12.
pub before_loss : issued 1 (holding 11 false) ≡ Ok (holding 12 false)
unfolding meter_of holds put
before_loss = refl

-- The store is lost, the backup is restored into an empty one, and an old number of the meter is heard, 5: the next
-- number is above the backup's and above the one heard, as promised. It is 12, which the lost store had issued.
pub after_loss :
    restored_by (holding 11 false) empty_store and_then hearing 1 5 and_then issued 1 ≡ Ok (holding 12 false)
unfolding meter_of holds put restored
after_loss = refl

-- A meter that is not held. It is heard with 12, which is refused: the store stays as it is, empty.
pub not_held : hearing 1 12 empty_store ≡ Err NotHeld
unfolding holds
not_held = refl

-- It is added and heard with an older number, 11: the next number is 12.
pub not_remembered :
    added 1 Mode.R Format.A empty_store and_then hearing 1 11 and_then issued 1 ≡ Ok (holding 12 false)
unfolding meter_of holds put
not_remembered = refl
