-- What a call that is not refused (specs/Changes) found in the store st, and the store after that it left.
--     HasRoom st after    st has room for its meters, and is what was left
--     added_has_room, restored_by_has_room     so of the calls that may be refused with 22
--     Hears, Issues       what hearing a number and issuing one find, and what they leave
--     hearing_hears, issued_issues        so they do
-- Assumes nothing.
use Rattle.std.specs.Prelude.{Ok}
use mathlib.Core.Bool.{true, false, not}
use mathlib.Core.Path.{◌≡◌}
use Prim.Native.Nat.{ℕ, ◌≤◌, ◌<◌}
use borrow.Author.Tests.{ltb-false, leb-false, not-false}
use lib.Dec.{ltb, leb}
use lib.ListN.{length}
use Rattle.frame.specs.declared.Format.{Format}
use Rattle.modes.specs.declared.Mode.{Mode}
use Rattle.sessions.specs.Meters.{Store, meter_of, holds}
use Rattle.sessions.specs.Changes.{last_number, within, with_meter, set_to, heard, next}
use Rattle.sessions.specs.Changes.{added, hearing, issued, restored, restored_by}
use Rattle.sessions.proofs.TestLaws.{cond_refuse}

pub record HasRoom (st after : Store) : Type 0 where
  pub few : length st.meters ≤ 64
  pub leaves : st ≡ after

within_has_room : {st after : Store} → within st ≡ Ok after → HasRoom st after
within_has_room {st} {after} h =
    let p = cond_refuse (ltb 64 (length st.meters)) _ _ h in
    record { few = ltb-false _ _ p.0; leaves = cc p.1 }

module _ (st : Store) {after : Store} where
  pub added_has_room :
      (a : ℕ) (mode : Mode) (format : Format) → added a mode format st ≡ Ok after
      → HasRoom (with_meter a (set_to mode format (meter_of a st.meters)) st) after
  added_has_room a mode format h = within_has_room h

  pub restored_by_has_room :
      (file : Store) → restored_by file st ≡ Ok after
      → HasRoom (record { meters = restored st.meters file.meters; allowance = file.allowance }) after
  restored_by_has_room file h = within_has_room h

pub record Hears (a n : ℕ) (st after : Store) : Type 0 where
  pub held : holds a st.meters ≡ true
  pub leaves : with_meter a (heard n (meter_of a st.meters)) st ≡ after

pub hearing_hears : (a n : ℕ) {st after : Store} → hearing a n st ≡ Ok after → Hears a n st after
hearing_hears a n {st} {after} h =
    let p = cond_refuse (not (holds a st.meters)) _ _ h in
    record { held = not-false _ p.0; leaves = cc p.1 }

pub record Issues (a : ℕ) (st after : Store) : Type 0 where
  pub held : holds a st.meters ≡ true
  pub sure : (meter_of a st.meters).unsure ≡ false
  pub below : (meter_of a st.meters).number < last_number
  pub leaves : with_meter a (next (meter_of a st.meters)) st ≡ after

pub issued_issues : (a : ℕ) {st after : Store} → issued a st ≡ Ok after → Issues a st after
issued_issues a {st} {after} h =
    let p = cond_refuse (not (holds a st.meters)) _ _ h in
    let q = cond_refuse (meter_of a st.meters).unsure _ _ p.1 in
    let r = cond_refuse (leb last_number (meter_of a st.meters).number) _ _ q.1 in
    record { held = not-false _ p.0; sure = q.0; below = leb-false _ _ r.0; leaves = cc r.1 }
