-- Meters that are looked up, and one that is put in (specs/Meters).
--     meter_of-address     what is held of a meter has its address
--     meter_of-stranger    of a meter that is not held nothing is known
--     meter_of_put, holds_put                  the meter that was put in is found
--     meter_of_put_other, holds_put_other      all others are as they were
--     meter_of_put_related     so what relates a meter before to the one put in relates each to what it is then
--     put_new                 one that is not held comes behind the last
--     addresses ms            the addresses in their order
--     addresses_put_new, addresses_put_held               a held one keeps its place
--     length_put_new, length_put_held, length_put-le      how many there are then
-- Assumes nothing.
use mathlib.Core.Bool.{true, false, true≢false}
use mathlib.Core.List.{List, [], ◌∷◌, ◌++◌, map, map-append}
use mathlib.Core.Logic.{◌≢◌}
use mathlib.Core.Path.{◌≡◌, refl, sym, ◌∙◌}
use Prim.Native.Nat.{ℕ, ◌+◌, ◌≤◌}
use native.Mathlib.Omega.{arith}
use borrow.Author.Tests.{eqb-true, eqb-false, eq-eqb, ne_eqb}
use lib.Dec.{eqb}
use lib.ListN.{length, length-append}
use Rattle.ground.proofs.CaseLaws.{by_test}
use Rattle.sessions.specs.declared.Meter.{Meter}
use Rattle.sessions.specs.Meters.{stranger, meter_of, holds, put}

pub meter_of-address : (a : ℕ) (ms : List Meter) → (meter_of a ms).address ≡ a
unfolding meter_of
meter_of-address a [] = refl
meter_of-address a (x ∷ ms) =
    by_test (eqb x.address a) (λ e. rw e (eqb-true _ _ e)) (λ e. rw e (meter_of-address a ms))

pub meter_of-stranger : (a : ℕ) (ms : List Meter) → holds a ms ≡ false → meter_of a ms ≡ stranger a
unfolding meter_of holds
meter_of-stranger a [] h = refl
meter_of-stranger a (x ∷ ms) h =
    by_test (eqb x.address a) (λ e. absurd (true≢false (rw e at h))) (λ e. rw e (meter_of-stranger a ms (rw e at h)))

module _ (a : ℕ) (m : Meter) (here : m.address ≡ a) where
  pub meter_of_put : (ms : List Meter) → meter_of a (put a m ms) ≡ m
  unfolding meter_of put
  meter_of_put [] = rw (eq-eqb _ _ here)
  meter_of_put (x ∷ ms) =
      by_test (eqb x.address a) (λ e. rw (e, eq-eqb _ _ here)) (λ e. rw (e, e) (meter_of_put ms))

  pub holds_put : (ms : List Meter) → holds a (put a m ms) ≡ true
  unfolding holds put
  holds_put [] = rw (eq-eqb _ _ here)
  holds_put (x ∷ ms) =
      by_test (eqb x.address a) (λ e. rw (e, eq-eqb _ _ here)) (λ e. rw (e, e) (holds_put ms))

module _ (a b : ℕ) (m : Meter) (here : m.address ≡ a) (other : b ≢ a) where
  elsewhere : (x : Meter) → x.address ≡ a → eqb x.address b ≡ false
  elsewhere x e = ne_eqb _ _ (λ d. other (sym d ∙ e))

  pub meter_of_put_other : (ms : List Meter) → meter_of b (put a m ms) ≡ meter_of b ms
  unfolding meter_of put
  meter_of_put_other [] = rw (elsewhere m here)
  meter_of_put_other (x ∷ ms) =
      by_test (eqb x.address a) (λ e. rw (e, elsewhere m here, elsewhere x (eqb-true _ _ e)))
      (λ e. rw (e, meter_of_put_other ms))

  pub holds_put_other : (ms : List Meter) → holds b (put a m ms) ≡ holds b ms
  unfolding holds put
  holds_put_other [] = rw (elsewhere m here)
  holds_put_other (x ∷ ms) =
      by_test (eqb x.address a) (λ e. rw (e, elsewhere m here, elsewhere x (eqb-true _ _ e)))
      (λ e. rw (e, holds_put_other ms))

-- a relation between what is held of a meter before and after: it holds of every meter if it holds of the one put in
pub meter_of_put_related :
    (R : Meter → Meter → Type 0) → ((x : Meter) → R x x) → (a b : ℕ) (m : Meter) (ms : List Meter) → m.address ≡ a
    → R (meter_of a ms) m → R (meter_of b ms) (meter_of b (put a m ms))
meter_of_put_related R same a b m ms here r =
    by_test (eqb b a) (λ e. let is : b ≡ a = eqb-true b a e in rw (is, meter_of_put a m here ms) r)
    (λ e. rw (meter_of_put_other a b m here (eqb-false b a e) ms) (same (meter_of b ms)))

abbrev pub addresses : List Meter → List ℕ
addresses ms = map (λ m. m.address) ms

module _ (a : ℕ) (m : Meter) where
  pub put_new : (ms : List Meter) → holds a ms ≡ false → put a m ms ≡ ms ++ (m ∷ [])
  unfolding holds put
  put_new [] h = refl
  put_new (x ∷ ms) h =
      by_test (eqb x.address a) (λ e. absurd (true≢false (rw e at h)))
      (λ e. rw (e, put_new ms (rw e at h)))

  pub length_put_new : (ms : List Meter) → holds a ms ≡ false → length (put a m ms) ≡ length ms + 1
  length_put_new ms h = rw (put_new ms h, length-append)

  pub length_put_held : (ms : List Meter) → holds a ms ≡ true → length (put a m ms) ≡ length ms
  unfolding holds put
  length_put_held [] h = absurd (true≢false (sym h))
  length_put_held (x ∷ ms) h =
      by_test (eqb x.address a) (λ e. rw e) (λ e. rw (e, length_put_held ms (rw e at h)))

  pub length_put-le : (ms : List Meter) → length ms ≤ length (put a m ms)
  length_put-le ms =
      by_test (holds a ms) (λ h. omega (arith, length_put_held ms h)) (λ h. omega (arith, length_put_new ms h))

  module _ (here : m.address ≡ a) where
    pub addresses_put_new : (ms : List Meter) → holds a ms ≡ false → addresses (put a m ms) ≡ addresses ms ++ (a ∷ [])
    addresses_put_new ms h = rw (put_new ms h, map-append, here)

    pub addresses_put_held : (ms : List Meter) → holds a ms ≡ true → addresses (put a m ms) ≡ addresses ms
    unfolding holds put
    addresses_put_held [] h = absurd (true≢false (sym h))
    addresses_put_held (x ∷ ms) h =
        by_test (eqb x.address a) (λ e. let same : x.address ≡ a = eqb-true _ _ e in rw (e, here, same))
        (λ e. rw (e, addresses_put_held ms (rw e at h)))
