-- That a test of a store's definition says whether a case of document 02, 9/14, holds (specs/StoreCases), and that a
-- case which finds a meter finds one alone.
--     meter_of_held, held_holds, held_is    what is held of a meter, and that it is one thing
--     holds_none, none_holds               19: that nothing is
--     meter_of_known, known_is              what is held of a meter that is added, a stranger if nothing is
--     tells_full, tells_unlisted           22 for a meter that is added; 17 for numbers of no mode or format
--     addresses_order, tells_over          the newcomers of a file that is restored; 22 for them
-- Assumes nothing.
use mathlib.Core.Bool.{Bool, true, false, ◌||◌, true≢false}
use mathlib.Core.List.{List, [], ◌∷◌, ◌++◌}
use mathlib.Core.Logic.{inl, inr, ⊎_elim}
use mathlib.Core.Path.{◌≡◌, refl, sym, ◌∙◌, ap}
use Prim.Native.Nat.{ℕ, suc, ◌+◌, ◌<◌}
use native.Mathlib.Omega.{arith}
use borrow.Author.Tests.{ltb-true, ltb-false}
use lib.Dec.{eqb, ltb}
use lib.ListN.{length, get_or}
use Rattle.ground.proofs.CaseLaws.{by_test}
use Rattle.sessions.specs.declared.Meter.{Meter}
use Rattle.sessions.specs.Meters.{Store, stranger, meter_of, holds, put}
use Rattle.sessions.specs.Changes.{restored}
use Rattle.sessions.specs.StoreFile.{unlike}
use Rattle.sessions.specs.Valid.{Valid}
use Rattle.sessions.proofs.OnceLaws.{Once, place_holds, unlike_once}
use Rattle.sessions.proofs.PutLaws.{meter_of-address, meter_of-stranger, length_put_held, length_put_new, addresses}
use Rattle.sessions.proofs.NewcomerLaws as session
use Rattle.demands.specs.StoreCases.{HeldAs, Held, KnownAs, Unlisted, FullFor, newcomers}
use Rattle.demands.proofs.RuleLaws.{Tells, tells-lt}

-- a place where the meter a stands
record PlaceOf (a : ℕ) (ms : List Meter) : Type 0 where
  at : ℕ
  inside : at < length ms
  is : get_or ms at (stranger 0) ≡ meter_of a ms

meter_of_place : (a : ℕ) (ms : List Meter) → holds a ms ≡ true → PlaceOf a ms
unfolding holds meter_of
meter_of_place a [] h = absurd (true≢false (sym h))
meter_of_place a (m ∷ ms) h =
    by_test (eqb m.address a) (λ e. record { at = 0; inside = omega arith; is = rw e })
    (λ e. let p = meter_of_place a ms (rw e at h) in
    record { at = suc p.at; inside = omega (arith, p.inside); is = rw e p.is })

module _ (a : ℕ) (st : Store) where
  pub meter_of_held : holds a st.meters ≡ true → HeldAs a st (meter_of a st.meters)
  meter_of_held h =
      let p = meter_of_place a st.meters h in
      record { at = p.at; inside = p.inside; is = p.is; address = meter_of-address a st.meters }

  place-address : {m : Meter} (p : HeldAs a st m) → (get_or st.meters p.at (stranger 0)).address ≡ a
  place-address p = ap (λ m. m.address) p.is ∙ p.address

  pub held_holds : {m : Meter} → HeldAs a st m → holds a st.meters ≡ true
  held_holds p = rw (place-address p) at (place_holds st.meters p.at p.inside)

  pub holds_none : holds a st.meters ≡ false → Held a st → ⊥
  holds_none none p = true≢false (sym (held_holds p.1) ∙ none)

  pub none_holds : (Held a st → ⊥) → holds a st.meters ≡ false
  none_holds none =
      by_test (holds a st.meters) (λ h. absurd (none (meter_of a st.meters, meter_of_held h))) (λ h. h)

  pub held_is : Once st.meters → (m : Meter) → HeldAs a st m → m ≡ meter_of a st.meters
  held_is once m p =
      let q = meter_of_held (held_holds p) in
      let same = once p.at q.at p.inside q.inside (place-address p ∙ sym (place-address q)) in
      sym p.is ∙ (ap (λ i. get_or st.meters i (stranger 0)) same ∙ q.is)

  module _ (v : Valid st) where
    pub known_is : (m : Meter) → KnownAs a st m → m ≡ meter_of a st.meters
    known_is m (inl p) = held_is v.once m p
    known_is m (inr p) = p.1 ∙ sym (meter_of-stranger a st.meters (none_holds p.0))

    module _ (m : Meter) where
      abbrev full : Bool
      full = ltb 64 (length (put a m st.meters))

      full_held : holds a st.meters ≡ true → Tells full (FullFor a st)
      full_held h =
          let size = length_put_held a m st.meters h in
          record {
            yes = λ e. absurd (omega (arith, ltb-true 64 (length (put a m st.meters)) e, size, v.few));
            not = λ e p. p.0 (meter_of a st.meters, meter_of_held h);
          }

      full_new : holds a st.meters ≡ false → Tells full (FullFor a st)
      full_new h =
          let size = length_put_new a m st.meters h in
          let n = length (put a m st.meters) in
          record {
            yes = λ e. (holds_none h, omega (arith, ltb-true 64 n e, size));
            not = λ e p. omega (arith, ltb-false 64 n e, size, p.1);
          }

      pub tells_full : Tells full (FullFor a st)
      tells_full = by_test (holds a st.meters) full_held full_new

  pub meter_of_known : KnownAs a st (meter_of a st.meters)
  meter_of_known =
      by_test (holds a st.meters) (λ h. inl (meter_of_held h))
      (λ h. inr (holds_none h, meter_of-stranger a st.meters h))

pub tells_unlisted : (k j : ℕ) → Tells (ltb 5 k || ltb 1 j) (Unlisted k j)
tells_unlisted k j =
    by_test (ltb 5 k)
    (λ p. record { yes = λ e. inl (ltb-true 5 k p); not = λ e. absurd (true≢false (rw p at e)) })
    (λ p. record {
      yes = λ e. inr (ltb-true 1 j (rw p at e));
      not = λ e. ⊎_elim (λ h. omega (arith, ltb-false 5 k p)) (λ h. omega (arith, ltb-false 1 j (rw p at e)));
    })

-- the newcomers of the page are those of the store's own crate
newcomers_same : (ms fs : List Meter) → newcomers ms fs ≡ session.newcomers ms fs
unfolding newcomers session.newcomers
newcomers_same ms [] = refl
newcomers_same ms (f ∷ fs) = rw (newcomers_same ms fs)

pub addresses_order :
    (ms fs : List Meter) → unlike [] fs ≡ true
    → addresses (restored ms fs) ≡ addresses ms ++ newcomers ms fs
addresses_order ms fs once = rw (newcomers_same ms fs) (session.addresses-restored ms fs once)

pub tells_over :
    (ms : List Meter) (file : Store) → Valid file
    → Tells (ltb 64 (length (restored ms file.meters))) (64 < length ms + length (newcomers ms file.meters))
tells_over ms file v =
    let size = session.length-restored ms file.meters ((unlike_once file.meters).1 v.once) in
    rw (newcomers_same ms file.meters, size) (tells-lt 64 (length ms + length (session.newcomers ms file.meters)))
