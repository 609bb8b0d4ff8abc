-- Meters of a valid store (specs/Valid), one put in, and a file's restored.
--     AllFit ms      the numbers of all meters of ms are those of their bytes
--     all_fit_meter_of, all_fit_put, all_fit_restored      the first stays
--     once_put, once-restored                          and so does the second
-- Assumes nothing.
use mathlib.Core.Bool.{true, false, true≢false}
use mathlib.Core.List.{List, [], ◌∷◌, ◌++◌}
use mathlib.Core.Logic.{◌≢◌, ◌⊎◌, inl, inr}
use mathlib.Core.Path.{◌≡◌, refl, ap, sym, ◌∙◌}
use Prim.Native.Nat.{ℕ, zero, suc, ◌<◌}
use native.Mathlib.Nat.{le_of_suc-le-suc, eq-or-lt_of_le}
use native.Mathlib.Omega.{arith}
use lib.Dec.{eqb}
use lib.ListN.{length, get_or, length-append, get_or-map, get_or-append}
use lib.Seq.{get_or_at}
use Rattle.ground.proofs.CaseLaws.{by_test}
use Rattle.sessions.specs.declared.Meter.{Meter}
use Rattle.sessions.specs.Meters.{stranger, meter_of, holds, put}
use Rattle.sessions.specs.Changes.{merged, restored}
use Rattle.sessions.specs.Valid.{Fits}
use Rattle.sessions.proofs.OnceLaws.{Once, place_holds}
use Rattle.sessions.proofs.PutLaws.{put_new, length_put_held, addresses_put_held}

-- all meters of ms fit
abbrev pub AllFit : List Meter → Type 0
AllFit ms = (i : ℕ) → i < length ms → Fits (get_or ms i (stranger 0))

all_fit_cons : (m : Meter) (ms : List Meter) → Fits m → AllFit ms → AllFit (m ∷ ms)
all_fit_cons m ms p h zero l = p
all_fit_cons m ms p h (suc i) l = h i (le_of_suc-le-suc l)

all_fit_rest : (m : Meter) (ms : List Meter) → AllFit (m ∷ ms) → AllFit ms
all_fit_rest m ms h i l = h (suc i) (omega arith)

pub all_fit_meter_of : (a : ℕ) (ms : List Meter) → a < 18446744073709551616 → AllFit ms → Fits (meter_of a ms)
unfolding meter_of
all_fit_meter_of a [] p h = record { address = p; number = omega arith }
all_fit_meter_of a (x ∷ ms) p h =
    by_test (eqb x.address a) (λ e. rw e (h 0 (omega arith)))
    (λ e. rw e (all_fit_meter_of a ms p (all_fit_rest x ms h)))

pub all_fit_put : (a : ℕ) (m : Meter) (ms : List Meter) → Fits m → AllFit ms → AllFit (put a m ms)
unfolding put
all_fit_put a m [] p h = all_fit_cons m [] p h
all_fit_put a m (x ∷ ms) p h =
    by_test (eqb x.address a) (λ e. rw e (all_fit_cons m ms p (all_fit_rest x ms h)))
    (λ e. rw e (all_fit_cons x (put a m ms) (h 0 (omega arith)) (all_fit_put a m ms p (all_fit_rest x ms h))))

abbrev address_at : List Meter → ℕ → ℕ
address_at ms i = (get_or ms i (stranger 0)).address

holds_not_at : (a : ℕ) (ms : List Meter) → holds a ms ≡ false → (i : ℕ) → i < length ms → address_at ms i ≢ a
holds_not_at a ms h i l e = true≢false (sym (rw e at (place_holds ms i l)) ∙ h)

module _ (m : Meter) (ms : List Meter) (none : holds m.address ms ≡ false) where
  append_before : (i : ℕ) → i < length ms → address_at (ms ++ (m ∷ [])) i ≡ address_at ms i
  append_before i p = ap (λ x. x.address) (get_or-append ms (m ∷ []) (stranger 0) i p)

  append_apart :
      (i j : ℕ) → i < length ms → j ≡ length ms → address_at (ms ++ (m ∷ [])) i ≢ address_at (ms ++ (m ∷ [])) j
  append_apart i j p q e =
      holds_not_at m.address ms none i p
      (sym (append_before i p) ∙ (e ∙ ap (λ x. x.address) (get_or_at ms m [] (stranger 0) j (sym q))))

  once-append : Once ms → Once (ms ++ (m ∷ []))
  once-append h i j p q e = by_place (place i p) (place j q)
    where
      place : (k : ℕ) → k < length (ms ++ (m ∷ [])) → (k ≡ length ms) ⊎ (k < length ms)
      place k l = eq-or-lt_of_le (omega (arith, length-append ms (m ∷ [])))

      by_place : (i ≡ length ms) ⊎ (i < length ms) → (j ≡ length ms) ⊎ (j < length ms) → i ≡ j
      by_place (inl u) (inl v) = u ∙ sym v
      by_place (inl u) (inr v) = absurd (append_apart j i v u (sym e))
      by_place (inr u) (inl v) = absurd (append_apart i j u v e)
      by_place (inr u) (inr v) = h i j u v (sym (append_before i u) ∙ (e ∙ append_before j v))

module _ (a : ℕ) (m : Meter) (here : m.address ≡ a) (ms : List Meter) where
  put-address : holds a ms ≡ true → (i : ℕ) → address_at (put a m ms) i ≡ address_at ms i
  put-address h i =
      sym (get_or-map (λ x. x.address) (put a m ms) i (stranger 0))
      ∙ (ap (λ l. get_or l i 0) (addresses_put_held a m here ms h) ∙ get_or-map (λ x. x.address) ms i (stranger 0))

  pub once_put : Once ms → Once (put a m ms)
  once_put once =
      by_test (holds a ms)
      (λ h i j p q e. once i j (rw (length_put_held a m ms h) at p) (rw (length_put_held a m ms h) at q)
      (sym (put-address h i) ∙ (e ∙ put-address h j)))
      (λ h. rw (put_new a m ms h) (once-append m ms (rw here h) once))

merged_fits : (own m : Meter) → Fits own → Fits m → Fits (merged own m)
merged_fits own m p q = record { address = q.address; number = omega arith }

pub all_fit_restored : (ms fs : List Meter) → AllFit ms → AllFit fs → AllFit (restored ms fs)
unfolding restored
all_fit_restored ms [] h k = h
all_fit_restored ms (m ∷ fs) h k =
    let fits = k 0 (omega arith) in
    let own = meter_of m.address ms in
    let new = merged_fits own m (all_fit_meter_of m.address ms fits.address h) fits in
    all_fit_restored (put m.address (merged own m) ms) fs (all_fit_put m.address (merged own m) ms new h)
    (all_fit_rest m fs k)

pub once-restored : (ms fs : List Meter) → Once ms → Once (restored ms fs)
unfolding restored
once-restored ms [] h = h
once-restored ms (m ∷ fs) h =
    let new = merged (meter_of m.address ms) m in
    once-restored (put m.address new ms) fs (once_put m.address new refl ms h)
