-- What a call makes of each meter (specs/StoreAfter).
--     with_meter_puts       the meter that is put in, and all others
--     restored-restores    a file's meters
-- Assumes nothing.
use mathlib.Core.Bool.{true, or-true}
use mathlib.Core.List.{[]}
use mathlib.Core.Logic.{◌≢◌}
use mathlib.Core.Path.{◌≡◌, refl, sym, ◌∙◌, ap, subst}
use Prim.Native.Nat.{ℕ, max}
use native.Mathlib.Omega.{arith}
use Rattle.sessions.specs.declared.Meter.{Meter}
use Rattle.sessions.specs.Meters.{Store, stranger, meter_of, holds}
use Rattle.sessions.specs.Changes.{with_meter, merged, restored}
use Rattle.sessions.specs.StoreFile.{unlike}
use Rattle.sessions.specs.Valid.{Valid}
use Rattle.sessions.proofs.OnceLaws.{Once, unlike_once}
use Rattle.sessions.proofs.PutValidLaws.{once_put}
use Rattle.sessions.proofs.PutLaws.{meter_of_put, holds_put, meter_of_put_other, holds_put_other, meter_of-stranger, addresses_put_held, addresses_put_new}
use Rattle.sessions.proofs.RestoreLaws.{meter_of-restored, meter_of-restored_other, holds-restored}
use Rattle.demands.specs.StoreCases.{HeldAs, Held}
use Rattle.demands.specs.StoreAfter.{Puts, Restores}
use Rattle.demands.proofs.StoreCaseLaws.{meter_of_held, held_holds, holds_none, none_holds, held_is, addresses_order}

-- what new holds of the meter a, by the two tests
held_by :
    (a : ℕ) (new : Store) {m : Meter} → holds a new.meters ≡ true → meter_of a new.meters ≡ m → HeldAs a new m
held_by a new h e = subst (HeldAs a new) e (meter_of_held a new h)

module _ (a : ℕ) (m : Meter) (st : Store) (once : Once st.meters) (here : m.address ≡ a) where
  abbrev put_in : Store
  put_in = with_meter a m st

  module _ (b : ℕ) (other : b ≢ a) where
    others_stay : (x : Meter) → HeldAs b st x → HeldAs b put_in x
    others_stay x p =
        held_by b put_in (holds_put_other a b m here other st.meters ∙ held_holds b st p)
        (meter_of_put_other a b m here other st.meters ∙ sym (held_is b st once x p))

    others_were : (x : Meter) → HeldAs b put_in x → HeldAs b st x
    others_were x p =
        held_by b st (sym (holds_put_other a b m here other st.meters) ∙ held_holds b put_in p)
        (sym (meter_of_put_other a b m here other st.meters)
        ∙ sym (held_is b put_in (once_put a m here st.meters once) x p))

  pub with_meter_puts : Puts a m st put_in
  with_meter_puts =
      record {
        this = held_by a put_in (holds_put a m here st.meters) (meter_of_put a m here st.meters);
        others = λ b x other. (others_stay b other x, others_were b other x);
        in_its_place = λ held. addresses_put_held a m here st.meters (held_holds a st held.1);
        behind_the_last = λ none. addresses_put_new a m here st.meters (none_holds a st none);
        allowance = refl;
      }

module _ (st file : Store) (v : Valid st) (w : Valid file) where
  abbrev restored_in : Store
  restored_in = record { meters = restored st.meters file.meters; allowance = file.allowance }

  apart : unlike [] file.meters ≡ true
  apart = (unlike_once file.meters).1 w.once

  module _ (a : ℕ) where
    -- a meter of the file
    entered : (m : Meter) → HeldAs a file m → HeldAs a restored_in (merged (meter_of a st.meters) m)
    entered m p =
        let h = held_holds a file p in
        held_by a restored_in
        (holds-restored a st.meters file.meters ∙ rw h (or-true (holds a st.meters)))
        (rw (held_is a file w.once m p) (meter_of-restored a st.meters file.meters apart h))

    restored_held : (own : Meter) → HeldAs a st own → (Held a file → ⊥) → HeldAs a restored_in own
    restored_held own p none =
        held_by a restored_in (holds-restored a st.meters file.meters ∙ rw (held_holds a st p))
        (meter_of-restored_other a st.meters file.meters (none_holds a file none)
        ∙ sym (held_is a st v.once own p))

    restored_neither : (Held a st → ⊥) → (Held a file → ⊥) → Held a restored_in → ⊥
    restored_neither none nor =
        holds_none a restored_in
        (holds-restored a st.meters file.meters ∙ rw (none_holds a st none, none_holds a file nor))

  -- what an entry makes of a meter, by what is known of it
  entered_as :
      (a : ℕ) (own m x : Meter) → meter_of a st.meters ≡ own → merged own m ≡ x → HeldAs a file m
      → HeldAs a restored_in x
  entered_as a own m x is e q = subst (HeldAs a restored_in) (ap (λ o. merged o m) is ∙ e) (entered a m q)

  pub restored-restores : Restores st file restored_in
  restored-restores =
      record {
        in_both = λ a own m p q. entered_as a own m _ (sym (held_is a st v.once own p)) (rw q.address) q;
        only_held = restored_held;
        only_in_the_file =
            λ a m none q. let e : max 0 m.number ≡ m.number = omega arith in
            entered_as a (stranger a) m _ (meter_of-stranger a st.meters (none_holds a st none))
            (rw (q.address, e)) q;
        in_neither = restored_neither;
        order = addresses_order st.meters file.meters apart;
        allowance = refl;
      }
