-- What every call keeps of a meter b (document 02, 9/14): st is the store before, after the store that the call left.
--     last b st      the number that is held of the meter b; 0 if it is not held
--     unsure b st    whether the meter b is unsure; true if it is not held
--     added_last, hearing_last, issued_last, allowing_last, restored_by_last      no call lowers a number
--     added_unsure, hearing_unsure, issued_unsure, allowing_unsure, restored_by_unsure
--                    no call but hearing a number of the meter itself makes it sure
--     meter_of-hearing, hearing_told     what is held of a meter that was heard: a number not below the one heard
--     meter_of_issued, issued_above      what is held of a meter that a number was issued for: a larger one than before
-- Assumes nothing.
use Rattle.std.specs.Prelude.{Ok}
use mathlib.Core.Bool.{Bool, true}
use mathlib.Core.Logic.{◌≢◌}
use mathlib.Core.Path.{◌≡◌, ap, ◌∙◌}
use Prim.Native.Nat.{ℕ, ◌≤◌, ◌<◌}
use native.Mathlib.Omega.{arith}
use Rattle.frame.specs.declared.Format.{Format}
use Rattle.modes.specs.declared.Mode.{Mode}
use Rattle.sessions.specs.declared.Meter.{Meter}
use Rattle.sessions.specs.Meters.{Store, meter_of}
use Rattle.sessions.specs.Changes.{heard, next, with_meter, added, hearing, issued, allowing, restored_by}
use Rattle.sessions.proofs.CallLaws.{added_has_room, restored_by_has_room, hearing_hears, issued_issues}
use Rattle.sessions.proofs.PutLaws.{meter_of-address, meter_of_put, meter_of_put_other, meter_of_put_related}
use Rattle.sessions.proofs.RestoreLaws.{meter_of-restored_related}

abbrev pub last : ℕ → Store → ℕ
last b st = (meter_of b st.meters).number

abbrev pub unsure : ℕ → Store → Bool
unsure b st = (meter_of b st.meters).unsure

-- x is a meter before, y after
abbrev NotLower : Meter → Meter → Type 0
NotLower x y = x.number ≤ y.number

abbrev StillUnsure : Meter → Meter → Type 0
StillUnsure x y = x.unsure ≡ true → y.unsure ≡ true

module _ (b : ℕ) (st after : Store) where
  -- m is put in for the meter a
  with_meter_last : (a : ℕ) (m : Meter) → m.address ≡ a → last a st ≤ m.number → last b st ≤ last b (with_meter a m st)
  with_meter_last a m here h = meter_of_put_related NotLower (λ x. omega arith) a b m st.meters here h

  with_meter_unsure :
      (a : ℕ) (m : Meter) → m.address ≡ a → (unsure a st ≡ true → m.unsure ≡ true) → unsure b st ≡ true
      → unsure b (with_meter a m st) ≡ true
  with_meter_unsure a m here h = meter_of_put_related StillUnsure (λ x u. u) a b m st.meters here h

  module _ (a : ℕ) (mode : Mode) (format : Format) (h : added a mode format st ≡ Ok after) where
    pub added_last : last b st ≤ last b after
    added_last =
        rw (← (added_has_room st a mode format h).leaves)
        (with_meter_last a _ (meter_of-address a st.meters) (omega arith))

    pub added_unsure : unsure b st ≡ true → unsure b after ≡ true
    added_unsure u =
        rw (← (added_has_room st a mode format h).leaves)
        (with_meter_unsure a _ (meter_of-address a st.meters) (λ v. v) u)

  module _ (a n : ℕ) (h : hearing a n st ≡ Ok after) where
    pub hearing_last : last b st ≤ last b after
    hearing_last =
        rw (← (hearing_hears a n h).leaves) (with_meter_last a _ (meter_of-address a st.meters) (omega arith))

    pub hearing_unsure : b ≢ a → unsure b st ≡ true → unsure b after ≡ true
    hearing_unsure other u =
        rw (← (hearing_hears a n h).leaves)
        (ap (λ m. m.unsure) (meter_of_put_other a b _ (meter_of-address a st.meters) other st.meters) ∙ u)

  module _ (n : ℕ) (h : hearing b n st ≡ Ok after) where
    pub meter_of-hearing : meter_of b after.meters ≡ heard n (meter_of b st.meters)
    meter_of-hearing = rw (← (hearing_hears b n h).leaves) (meter_of_put b _ (meter_of-address b st.meters) st.meters)

    pub hearing_told : n ≤ last b after
    hearing_told = omega (arith, ap (λ (m : Meter). m.number) meter_of-hearing)

  module _ (a : ℕ) (h : issued a st ≡ Ok after) where
    pub issued_last : last b st ≤ last b after
    issued_last = rw (← (issued_issues a h).leaves) (with_meter_last a _ (meter_of-address a st.meters) (omega arith))

    pub issued_unsure : unsure b st ≡ true → unsure b after ≡ true
    issued_unsure u =
        rw (← (issued_issues a h).leaves) (with_meter_unsure a _ (meter_of-address a st.meters) (λ v. v) u)

  module _ (h : issued b st ≡ Ok after) where
    pub meter_of_issued : meter_of b after.meters ≡ next (meter_of b st.meters)
    meter_of_issued = rw (← (issued_issues b h).leaves) (meter_of_put b _ (meter_of-address b st.meters) st.meters)

    pub issued_above : last b st < last b after
    issued_above = omega (arith, ap (λ (m : Meter). m.number) meter_of_issued)

  module _ (n : ℕ) (h : allowing n st ≡ Ok after) where
    allowing_meters : st.meters ≡ after.meters
    allowing_meters = cc

    pub allowing_last : last b st ≤ last b after
    allowing_last = rw (← allowing_meters) (omega arith)

    pub allowing_unsure : unsure b st ≡ true → unsure b after ≡ true
    allowing_unsure u = rw (← allowing_meters) u

  module _ (file : Store) (h : restored_by file st ≡ Ok after) where
    pub restored_by_last : last b st ≤ last b after
    restored_by_last =
        rw (← (restored_by_has_room st file h).leaves)
        (meter_of-restored_related NotLower (λ x. omega arith) (λ x y z p q. omega arith) (λ own m. omega arith)
        b st.meters file.meters)

    pub restored_by_unsure : unsure b st ≡ true → unsure b after ≡ true
    restored_by_unsure =
        rw (← (restored_by_has_room st file h).leaves)
        (meter_of-restored_related StillUnsure (λ x u. u) (λ x y z f g u. g (f u)) (λ own m u. u)
        b st.meters file.meters)
