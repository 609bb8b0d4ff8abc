-- The search: its state, with start, turn and end (specs/Inner).
--     raised_at, length_raised   a polynomial times x
--     taken            how many polynomials are kept
--     Searching        the state: as many are kept as the degree is, and the polynomial of this degree
--     search_start     how it begins: the polynomial 1, nothing kept
--     search_on        how it goes on, with one more kept
--     found            how it ends
-- Assumes nothing.
use Rattle.std.proofs.Common.{count_by, cond, is_some, Option, None, Some, List, [], ◌∷◌, ◌++◌, ◌≡◌, refl, sym, ap}
use Rattle.std.proofs.Common.{subst, ◌∙◌, ℕ, zero, suc, ◌-◌, ◌+◌, ◌≤◌, ◌<◌, arith, eqb-true, eqb, length, get_or, drop}
use Rattle.std.proofs.Common.{set, replicate, length-set, length-append, length-drop, get_or-set_same, get_or-set_other}
use Rattle.std.proofs.Common.{get_or-drop}
use borrow.Author.Tests.{eqb-false}
use lib.ListN.{get_or-replicate, get_or-eq_default}
use Rattle.std.proofs.lemmas.List.Sums.{count_by-le-length, sum_by-cons}
use Rattle.ground.specs.Bytes.{Bytes}
use Rattle.ground.proofs.ByteLaws.{bytes-nil, bytes-cons, bytes-append, bytes_drop, bytes-set}
use Rattle.ground.proofs.CaseLaws.{by_test}
use Rattle.locators.specs.Combinations.{combined}
use Rattle.locators.proofs.CombineLaws.{combined_up}
use Rattle.locating.proofs.ReduceLaws.{combined_skip, poly_of}
use Rattle.locating.specs.Inner.{Slot, Slots, Reducing, Stands}
use Rattle.locating.specs.Locates.{Poly, Locates}
use Rattle.locating.specs.declared.reducing.Kept.{Kept}

-- ---- how many are kept

abbrev pub taken : List (Option Kept) → ℕ
taken kept = count_by is_some kept

taken-cons : (o : Option Kept) (kept : List (Option Kept)) → taken (o ∷ kept) ≡ cond (is_some o) 1 0 + taken kept
taken-cons o kept = sum_by-cons (λ (k : Option Kept). cond (is_some k) 1 0) o kept

taken-set : (kept : List (Option Kept)) (i : ℕ) (k : Kept) → i < length kept → get_or kept i None ≡ None
    → taken (set kept i (Some k)) ≡ suc (taken kept)
taken-set [] i k h free = absurd (omega arith)
taken-set (None ∷ kept) zero k h free = omega (arith, taken-cons (Some k) kept, taken-cons None kept)
taken-set (Some o ∷ kept) zero k h free = cc
taken-set (o ∷ kept) (suc i) k h free =
    omega (arith, taken-cons o (set kept i (Some k)), taken-cons o kept, taken-set kept i k (omega arith) free)

-- ---- times x

abbrev pub raised : List ℕ → List ℕ
raised v = drop 1 v ++ (0 ∷ [])

padded : (v : List ℕ) (k : ℕ) → get_or (v ++ (0 ∷ [])) k 0 ≡ get_or v k 0
padded [] zero = refl
padded [] (suc k) = refl
padded (x ∷ v) zero = refl
padded (x ∷ v) (suc k) = padded v k

pub raised_at : (v : List ℕ) (k : ℕ) → get_or (raised v) k 0 ≡ get_or v (k + 1) 0
raised_at v k =
    let e : 1 + k ≡ k + 1 = omega arith in
    padded (drop 1 v) k ∙ get_or-drop 1 v k 0 ∙ ap (λ (j : ℕ). get_or v j 0) e

pub raised_last : (v : List ℕ) (k : ℕ) → length v ≤ k + 1 → get_or (raised v) k 0 ≡ 0
raised_last v k h = raised_at v k ∙ get_or-eq_default v 0 h

pub length_raised : (v : List ℕ) → 0 < length v → length (raised v) ≡ length v
length_raised v h = simp (length-append, length-drop) (omega arith)

module _ {s v : List ℕ} {low i : ℕ} (at : Reducing s low v i) (more : 0 < low) where
  raised_bytes : Bytes (raised v)
  raised_bytes =
      bytes-append (drop 1 v) (0 ∷ []) (bytes_drop 1 v at.poly.bytes) (bytes-cons 0 [] (omega arith) bytes-nil)

  raised_lead : get_or (raised v) (low - 1) 0 ≡ 1
  raised_lead =
      let e : low - 1 + 1 ≡ low = omega arith in
      raised_at v (low - 1) ∙ ap (λ (k : ℕ). get_or v k 0) e ∙ at.poly.lead

  raised_poly : Poly (low - 1) (raised v)
  raised_poly =
      let p = at.poly in
      poly_of (length_raised v (omega (arith, p.count)) ∙ p.count) raised_bytes (omega (arith, p.within))
      (λ t h. raised_at v t ∙ p.zeros (t + 1) (omega arith)) raised_lead

  raised_column : (k : ℕ) → combined s (raised v) k ≡ combined s v (suc k)
  raised_column k =
      combined_up s (drop 1 v) k ∙ combined_skip s 1 v (suc k) (λ t h. at.poly.zeros t (omega arith))

  pub raised-reducing : Reducing s (low - 1) (raised v) (i - 1)
  raised-reducing =
      record { poly = raised_poly; before = λ k h. raised_column k ∙ at.before (suc k) (omega arith) }

-- ---- what is kept

-- what is kept, from what makes it so
slot_of : {s p : List ℕ} {i low lead : ℕ} → length p ≡ 17 → Bytes p → ((t : ℕ) → t ≤ low → get_or p t 0 ≡ 0)
    → ((k : ℕ) → k < i → combined s p k ≡ 0) → combined s p i ≡ lead → Slot s i low lead p
slot_of count bytes zeros before here =
    record { count = count; bytes = bytes; zeros = zeros; before = before; here = here }

lower : {s p : List ℕ} {i low lead : ℕ} → Slot s i low lead p → Slot s i (low - 1) lead p
lower k = slot_of k.count k.bytes (λ t h. k.zeros t (omega arith)) k.before k.here

module _ {s v : List ℕ} {kept : List (Option Kept)} {low i x : ℕ} (slots : Slots s kept low)
    (at : Reducing s low v i) (stands : Stands s kept v i x) (more : 0 < low) where
  abbrev new : Kept
  new = record { row = v; lead = x }

  new_slot : Slot s i (low - 1) x v
  new_slot =
      let p = at.poly in
      slot_of p.count p.bytes (λ t h. p.zeros t (omega arith)) at.before stands.here

  new_at : (j : ℕ) → j ≡ i → (k : Kept) → get_or (set kept i (Some new)) j None ≡ Some k
      → (0 < k.lead) × Slot s j (low - 1) k.lead k.row
  new_at j e k is =
      let same : get_or (set kept i (Some new)) i None ≡ Some new
      = get_or-set_same kept i (Some new) None (omega (arith, slots.count, stands.within)) in
      let k_is : new ≡ k = cc in
      subst (λ (n : ℕ). (0 < k.lead) × Slot s n (low - 1) k.lead k.row) (sym e)
      (subst (λ (m : Kept). (0 < m.lead) × Slot s i (low - 1) m.lead m.row) k_is (stands.some, new_slot))

  old_at : (j : ℕ) → j < 16 → (j ≡ i → ⊥) → (k : Kept) → get_or (set kept i (Some new)) j None ≡ Some k
      → (0 < k.lead) × Slot s j (low - 1) k.lead k.row
  old_at j low-j other k is =
      let old = slots.slot j low-j k (sym (get_or-set_other kept i j (Some new) None other) ∙ is) in
      (old.0, lower old.1)

  pub slots_more : Slots s (set kept i (Some new)) (low - 1)
  slots_more =
      record {
        count = length-set kept i (Some new) ∙ slots.count;
        slot = λ j h k is.
            by_test (eqb j i) (λ t. new_at j (eqb-true j i t) k is) (λ t. old_at j h (eqb-false j i t) k is);
      }

-- ---- the search

pub record Searching (s : List ℕ) (kept : List (Option Kept)) (low : ℕ) (v : List ℕ) (i : ℕ) : Type 0 where
  pub slots : Slots s kept low
  pub count : taken kept + low ≡ 16
  pub within : i ≤ 16
  pub reducing : Reducing s low v i

module _ {s v : List ℕ} {kept : List (Option Kept)} {low i x : ℕ} (slots : Slots s kept low)
    (count : taken kept + low ≡ 16) (at : Reducing s low v i) (stands : Stands s kept v i x) where
  abbrev more : Kept
  more = record { row = v; lead = x }

  abbrev added : List (Option Kept)
  added = set kept i (Some more)

  heavier : taken added ≡ suc (taken kept)
  heavier = taken-set kept i more (omega (arith, slots.count, stands.within)) stands.free

  pub more_left : 0 < low
  more_left =
      omega (arith, heavier, count_by-le-length is_some added, length-set kept i (Some more), slots.count, count)

  next-reducing : {u : List ℕ} {k n : ℕ} → u ≡ raised v → k ≡ i - 1 → n ≡ low - 1 → Reducing s n u k
  next-reducing {u} {k} {n} eu ek en =
      subst (λ (m : ℕ). Reducing s m u k) (sym en)
      (subst (λ (l : List ℕ). Reducing s (low - 1) l k) (sym eu)
      (subst (Reducing s (low - 1) (raised v)) (sym ek) (raised-reducing at more_left)))

  pub search_on : {u : List ℕ} {k n : ℕ} → u ≡ raised v → k ≡ i - 1 → n ≡ low - 1 → Searching s added n u k
  search_on {u} {k} {n} eu ek en =
      record {
        slots = subst (Slots s added) (sym en) (slots_more slots at stands more_left);
        count = omega (arith, heavier, more_left, count);
        within = omega (arith, stands.within);
        reducing = next-reducing eu ek en;
      }

module _ {s v : List ℕ} {low i : ℕ} (at : Reducing s low v i) where
  poly_by_degree : Poly (16 - (16 - low)) v
  poly_by_degree =
      let e : low ≡ 16 - (16 - low) = omega (arith, at.poly.within) in
      subst (λ (k : ℕ). Poly k v) e at.poly

  pub found : 16 ≤ i → Locates s v (16 - low)
  found all = record { degree = omega arith; poly = poly_by_degree; all = λ k h. at.before k (omega arith) }

-- ---- how it begins

bytes_zeros : (n : ℕ) → Bytes (replicate n 0)
bytes_zeros zero = bytes-nil
bytes_zeros (suc n) = bytes-cons 0 (replicate n 0) (omega arith) (bytes_zeros n)

-- the polynomial 1
abbrev one : List ℕ
one = set (replicate 17 0) 16 1

one_zeros : (t : ℕ) → t < 16 → get_or one t 0 ≡ 0
one_zeros t h =
    get_or-set_other (replicate 17 0) 16 t 1 0 (λ e. omega arith) ∙ get_or-replicate 17 t 0 0 (omega arith)

one_poly : Poly 16 one
one_poly = poly_of refl (bytes-set (replicate 17 0) 16 1 (bytes_zeros 17) (omega arith)) (omega arith) one_zeros refl

none_kept : (i : ℕ) (k : Kept) → i < 16 → get_or (replicate {A = Option Kept} 16 None) i None ≡ Some k → ⊥
none_kept i k h is =
    let none : get_or (replicate {A = Option Kept} 16 None) i None ≡ None = get_or-replicate 16 i None None h in
    cc

pub search_start : (s : List ℕ) → Searching s (replicate 16 None) 16 one 0
search_start s =
    record {
      slots = record { count = refl; slot = λ i h k is. absurd (none_kept i k h is) };
      count = refl;
      within = omega arith;
      reducing = record { poly = one_poly; before = λ k h. absurd (omega arith) };
    }
