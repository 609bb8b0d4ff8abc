-- A file's meters brought into the store's one by one (specs/Inner, `restored_to`), and the places of them.
--     place_of_restored     a meter that is held keeps its place
--     length-restored-le, length-restored_to-le    there are never fewer
--     restored_to-zero, restored_to-suc    none of the file's, and one more
--     all_fit_restored_to    the numbers of all of them fit their bytes
--     length_next_held, length_next_new    how many there are with one more
--     place_of_next_lt      the place of the next one is among them
--     place_of_new          the place of the next one that the store does not hold: behind the last
--     new_before           one whose place is behind the store's own is not there before
-- Assumes nothing.
use mathlib.Core.Bool.{true, false, true≢false}
use mathlib.Core.List.{List, [], ◌∷◌, ◌++◌}
use mathlib.Core.Path.{◌≡◌, refl, ◌∙◌, ap, sym}
use Prim.Native.Nat.{ℕ, suc, ◌+◌, ◌*◌, ◌≤◌, ◌<◌}
use native.Mathlib.Omega.{arith}
use borrow.Author.Tests.{eqb-true}
use lib.Dec.{eqb}
use lib.ListN.{length, get_or, take, drop, take-append-drop}
use lib.Seq.{drop-drop, get_or-take}
use Rattle.ground.specs.Bytes.{Bytes}
use Rattle.ground.proofs.ByteLaws.{bytes_drop}
use Rattle.ground.proofs.CaseLaws.{by_test}
use Rattle.sessions.specs.declared.Meter.{Meter}
use Rattle.sessions.specs.Meters.{stranger, meter_of, holds, put}
use Rattle.sessions.specs.Changes.{merged, restored}
use Rattle.sessions.specs.StoreFile.{meter_in, meters_in}
use Rattle.sessions.proofs.MetersInLaws.{meters_in-suc, take-meters_in, length-meters_in, get_or-meters_in}
use Rattle.sessions.proofs.MeterBytesLaws.{fits-meter_in}
use Rattle.sessions.proofs.OnceLaws.{holds_place, unlike_once}
use Rattle.sessions.proofs.PutValidLaws.{AllFit, all_fit_restored}
use Rattle.sessions.proofs.PutLaws.{length_put-le, length_put_held, length_put_new}
use Rattle.sessions.proofs.RestoreLaws.{holds-restored}
use Rattle.store.specs.Inner.{place_of, address_at, restored_to, MetersFrom}
use Rattle.store.proofs.MeterAtLaws.{key_at_drop}
use Rattle.store.proofs.PlaceLaws.{place_of_none, place_of_absent, address_at_lem}
use Rattle.store.proofs.PutBytesLaws.{length_put}

module _ (a b : ℕ) (m : Meter) (here : m.address ≡ a) where
  place_of_put : (ms : List Meter) → holds b ms ≡ true → place_of b (put a m ms) ≡ place_of b ms
  unfolding holds place_of put
  place_of_put [] held = absurd (true≢false (sym held))
  place_of_put (x ∷ ms) held =
      by_test (eqb x.address a)
      (λ e. let same : x.address ≡ m.address = eqb-true _ _ e ∙ sym here in rw (e, same))
      (λ e. rw e (by_test (eqb x.address b) (λ f. rw f) (λ f. rw (f, place_of_put ms (rw f at held)))))

pub place_of_restored :
    (b : ℕ) (ms fs : List Meter) → holds b ms ≡ true → place_of b (restored ms fs) ≡ place_of b ms
unfolding restored holds
place_of_restored b ms [] held = refl
place_of_restored b ms (f ∷ fs) held =
    let new = merged (meter_of f.address ms) f in
    let still : holds b (put f.address new ms) ≡ true = holds-restored b ms (f ∷ []) ∙ rw held in
    place_of_restored b (put f.address new ms) fs still ∙ place_of_put f.address b new refl ms held

restored-append : (ms fs gs : List Meter) → restored ms (fs ++ gs) ≡ restored (restored ms fs) gs
unfolding restored
restored-append ms [] gs = refl
restored-append ms (f ∷ fs) gs = restored-append (put f.address (merged (meter_of f.address ms) f) ms) fs gs

pub length-restored-le : (ms fs : List Meter) → length ms ≤ length (restored ms fs)
unfolding restored
length-restored-le ms [] = omega arith
length-restored-le ms (f ∷ fs) =
    let new = merged (meter_of f.address ms) f in
    omega (arith, length_put-le f.address new ms, length-restored-le (put f.address new ms) fs)

all_fit_meters_in : (n : ℕ) (t : List ℕ) → Bytes t → AllFit (meters_in n t)
all_fit_meters_in n t bytes i low =
    rw (get_or-meters_in n t i (stranger 0) (omega (arith, length-meters_in n t)))
    (fits-meter_in (drop (20 * i) t) (bytes_drop (20 * i) t bytes))

module _ (s : List ℕ) (count : ℕ) (file : List ℕ) (first : ℕ) where
  pub all_fit_restored_to : (i : ℕ) → Bytes s → Bytes file → AllFit (restored_to s count file first i)
  all_fit_restored_to i own theirs =
      all_fit_restored (meters_in count (drop 8 s)) (meters_in i (drop first file))
      (all_fit_meters_in count (drop 8 s) (bytes_drop 8 s own))
      (all_fit_meters_in i (drop first file) (bytes_drop first file theirs))

  pub restored_to-zero : restored_to s count file first 0 ≡ meters_in count (drop 8 s)
  unfolding restored meters_in
  restored_to-zero = refl

  pub length-restored_to-le :
      (i n : ℕ) → i ≤ n → length (restored_to s count file first i) ≤ length (restored_to s count file first n)
  length-restored_to-le i n low =
      let ms = meters_in count (drop 8 s) in
      let fs = meters_in n (drop first file) in
      let parted = restored-append ms (take i fs) (drop i fs) in
      rw (← take-append-drop i fs, parted, ← take-meters_in i n (drop first file) low)
      (length-restored-le (restored ms (take i fs)) (drop i fs))

module _ (file : List ℕ) (first i n : ℕ) (low : i < n) where
  address_before :
      (j : ℕ) → j < i
      → (get_or (meters_in n (drop first file)) j (stranger 0)).address
      ≡ (get_or (meters_in i (drop first file)) j (stranger 0)).address
  address_before j before =
      let t = drop first file in
      rw (← get_or-take i (meters_in n t) j (stranger 0) before, take-meters_in i n t (omega arith))

  unlike_at : MetersFrom first n file → holds (address_at file first i) (meters_in i (drop first file)) ≡ false
  unlike_at m =
      let t = drop first file in
      let size = length-meters_in n t in
      by_test (holds (address_at file first i) (meters_in i t))
      (λ held.
      let p = holds_place (address_at file first i) (meters_in i t) held in
      let before : p.at < i = omega (arith, p.inside, length-meters_in i t) in
      let same = address_before p.at before ∙ (p.here ∙ sym (address_at_lem file first n i (stranger 0) low)) in
      let once = (unlike_once (meters_in n t)).0 m.once in
      absurd (omega (arith, before, once p.at i (omega (arith, before)) (omega arith) same)))
      (λ none. none)

module _ (s : List ℕ) (count : ℕ) (file : List ℕ) (first i : ℕ) where
  pub restored_to-suc :
      let R = restored_to s count file first i in
      let a = address_at file first i in
      restored_to s count file first (suc i) ≡ put a (merged (meter_of a R) (meter_in (drop (first + 20 * i) file))) R
  unfolding restored
  restored_to-suc =
      let ms = meters_in count (drop 8 s) in
      let t = drop first file in
      let R = restored ms (meters_in i t) in
      let m = meter_in (drop (first + 20 * i) file) in
      ap (restored ms) (meters_in-suc i t)
      ∙ (restored-append ms (meters_in i t) (meter_in (drop (20 * i) t) ∷ [])
      ∙ (ap (λ (u : List ℕ). restored R (meter_in u ∷ [])) (drop-drop (20 * i) first file)
      ∙ ap (λ (a : ℕ). put a (merged (meter_of a R) m) R) (key_at_drop file (first + 20 * i) 1)))

  module _ (held : holds (address_at file first i) (meters_in count (drop 8 s)) ≡ true) where
    holds_held : holds (address_at file first i) (restored_to s count file first i) ≡ true
    holds_held =
        let a = address_at file first i in
        holds-restored a (meters_in count (drop 8 s)) (meters_in i (drop first file)) ∙ rw held

    pub length_next_held : length (restored_to s count file first (suc i)) ≡ length (restored_to s count file first i)
    length_next_held =
        let R = restored_to s count file first i in
        ap length restored_to-suc ∙ length_put_held (address_at file first i) _ R holds_held

  module _
      {n : ℕ}
      (m : MetersFrom first n file)
      (low : i < n)
      (new : holds (address_at file first i) (meters_in count (drop 8 s)) ≡ false)
    where
      holds_new : holds (address_at file first i) (restored_to s count file first i) ≡ false
      holds_new =
          let a = address_at file first i in
          holds-restored a (meters_in count (drop 8 s)) (meters_in i (drop first file))
          ∙ rw new (unlike_at file first i n low m)

      pub length_next_new :
          length (restored_to s count file first (suc i)) ≡ length (restored_to s count file first i) + 1
      length_next_new =
          let R = restored_to s count file first i in
          ap length restored_to-suc ∙ length_put_new (address_at file first i) _ R holds_new

      pub place_of_new :
          place_of (address_at file first i) (restored_to s count file first i)
          ≡ length (restored_to s count file first i)
      place_of_new = sym (place_of_absent (address_at file first i) (restored_to s count file first i) holds_new)

  pub place_of_next_lt :
      place_of (address_at file first i) (restored_to s count file first i)
      < length (restored_to s count file first (suc i))
  place_of_next_lt =
      let a = address_at file first i in
      let R = restored_to s count file first i in
      let new = merged (meter_of a R) (meter_in (drop (first + 20 * i) file)) in
      omega (arith, ap length restored_to-suc, length_put a new R)

  pub new_before :
      {n : ℕ} → MetersFrom first n file → i < n
      → count ≤ place_of (address_at file first i) (restored_to s count file first i)
      → holds (address_at file first i) (restored_to s count file first i) ≡ false
  new_before m low high =
      let a = address_at file first i in
      let ms = meters_in count (drop 8 s) in
      by_test (holds a ms)
      (λ held. let still = place_of_restored a ms (meters_in i (drop first file)) held in
      absurd (true≢false (sym held ∙ place_of_none a ms (omega (arith, still, length-meters_in count (drop 8 s))))))
      (λ none. holds_new m low none)
