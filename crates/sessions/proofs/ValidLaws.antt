-- A valid store (specs/Valid) stays one with every call whose numbers are those that a caller can hand over.
--     added_valid, hearing_valid, issued_valid, allowing_valid, restored_by_valid
-- Assumes nothing.
use Rattle.std.specs.Prelude.{Ok}
use mathlib.Core.Path.{◌≡◌}
use Prim.Native.Nat.{ℕ, ◌≤◌, ◌<◌}
use native.Mathlib.Omega.{arith}
use lib.ListN.{length}
use Rattle.frame.specs.declared.Format.{Format}
use Rattle.modes.specs.declared.Mode.{Mode}
use Rattle.sessions.specs.declared.Meter.{Meter}
use Rattle.sessions.specs.Meters.{Store, meter_of, put}
use Rattle.sessions.specs.Changes.{with_meter, added, hearing, issued, allowing, restored_by}
use Rattle.sessions.specs.Valid.{Fits, Valid}
use Rattle.sessions.proofs.CallLaws.{added_has_room, restored_by_has_room, hearing_hears, issued_issues}
use Rattle.sessions.proofs.PutLaws.{meter_of-address, length_put_held}
use Rattle.sessions.proofs.PutValidLaws.{all_fit_meter_of, all_fit_put, all_fit_restored, once_put, once-restored}

-- m is put in for the meter a
with_meter_valid :
    (a : ℕ) (m : Meter) (st : Store) → m.address ≡ a → Fits m → length (put a m st.meters) ≤ 64 → Valid st
    → Valid (with_meter a m st)
with_meter_valid a m st here fits few v =
    record {
      few = few;
      fit = all_fit_put a m st.meters fits v.fit;
      once = once_put a m here st.meters v.once;
      allows = v.allows;
    }

module _ (st after : Store) (v : Valid st) where
  module _ (a : ℕ) (range : a < 18446744073709551616) where
    fits : Fits (meter_of a st.meters)
    fits = all_fit_meter_of a st.meters range v.fit

    pub added_valid : (mode : Mode) (format : Format) → added a mode format st ≡ Ok after → Valid after
    added_valid mode format h =
        let p = added_has_room st a mode format h in
        rw (← p.leaves)
        (with_meter_valid a _ st (meter_of-address a st.meters)
        (record { address = fits.address; number = fits.number }) p.few v)

    pub hearing_valid : (n : ℕ) → n < 4294967296 → hearing a n st ≡ Ok after → Valid after
    hearing_valid n small h =
        let p = hearing_hears a n h in
        rw (← p.leaves)
        (with_meter_valid a _ st (meter_of-address a st.meters)
        (record { address = fits.address; number = omega (arith, fits) })
        (rw (length_put_held a _ st.meters p.held) v.few) v)

    pub issued_valid : issued a st ≡ Ok after → Valid after
    issued_valid h =
        let p = issued_issues a h in
        rw (← p.leaves)
        (with_meter_valid a _ st (meter_of-address a st.meters)
        (record { address = fits.address; number = omega (arith, p.below) })
        (rw (length_put_held a _ st.meters p.held) v.few) v)

  pub allowing_valid : (n : ℕ) → n < 4294967296 → allowing n st ≡ Ok after → Valid after
  allowing_valid n small h =
      let same : record { meters = st.meters; allowance = n } ≡ after = cc in
      rw (← same) (record { few = v.few; fit = v.fit; once = v.once; allows = small })

  pub restored_by_valid : (file : Store) → Valid file → restored_by file st ≡ Ok after → Valid after
  restored_by_valid file w h =
      let p = restored_by_has_room st file h in
      rw (← p.leaves)
      (record {
        few = p.few;
        fit = all_fit_restored st.meters file.meters v.fit w.fit;
        once = once-restored st.meters file.meters v.once;
        allows = w.allows;
      })
