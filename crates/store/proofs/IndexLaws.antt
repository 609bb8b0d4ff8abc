-- The table that makes a search short (specs/Inner).
--     not_true                      what is not true is false
--     last_with-le, last_with_slot    the last meter in a slot is one of them, and is in that slot
--     last_with_above                none behind it is
--     Walk, walk_starts, walk_ends, walk_less, walk_next    a search in a slot, from one meter to the one before it
--     indexed_none                  a table of zeros is that of no meters
--     indexed_from                  a table of no meters is that wherever they are to begin
--     indexed_next                  one meter more, entered
-- Assumes nothing.
use mathlib.Core.Bool.{Bool, true, false, cond}
use mathlib.Core.List.{List}
use mathlib.Core.Logic.{◌⊎◌, inl, inr}
use mathlib.Core.Path.{◌≡◌, refl, ◌∙◌, ap, sym}
use Prim.Native.Nat.{ℕ, zero, suc, ◌-◌, ◌≤◌, ◌<◌}
use native.Mathlib.Nat.{eq-or-lt_of_le, lt_of_not-le}
use native.Mathlib.Omega.{arith}
use borrow.Author.Tests.{eqb-true, eqb-false}
use lib.Dec.{eqb}
use lib.ListN.{length, get_or, set, replicate, get_or-replicate}
use lib.Seq.{get_or-set_same, get_or-set_other}
use Rattle.store.specs.Inner.{address_at, slot_of, last_with, Indexed}

pub not_true : (t : Bool) → (t ≡ true → ⊥) → t ≡ false
not_true true never = absurd (never refl)
not_true false never = refl

module _ (s : List ℕ) (first h : ℕ) where
  abbrev slot : ℕ → ℕ
  slot j = slot_of (address_at s first j)

  le-cons : (t : Bool) (k l : ℕ) → l ≤ k → cond t (suc k) l ≤ suc k
  le-cons true k l low = omega arith
  le-cons false k l low = omega arith

  pub last_with-le : (k : ℕ) → last_with s first h k ≤ k
  unfolding last_with
  last_with-le zero = omega arith
  last_with-le (suc k) = le-cons (eqb (slot k) h) k (last_with s first h k) (last_with-le k)

  slot-cons :
      (t : Bool) (k j l : ℕ) → eqb (slot k) h ≡ t → (l ≡ suc j → slot j ≡ h) → cond t (suc k) l ≡ suc j → slot j ≡ h
  slot-cons true k j l e before is = let same : k ≡ j = omega (arith, is) in rw (← same) (eqb-true (slot k) h e)
  slot-cons false k j l e before is = before is

  pub last_with_slot : (k j : ℕ) → last_with s first h k ≡ suc j → slot j ≡ h
  unfolding last_with
  last_with_slot zero j is = absurd (omega (arith, is))
  last_with_slot (suc k) j is = slot-cons (eqb (slot k) h) k j (last_with s first h k) refl (last_with_slot k j) is

  last_or_before : (k j : ℕ) → (slot k ≡ h → ⊥) → (j < k → slot j ≡ h → ⊥) → (j ≡ k) ⊎ (j < k) → slot j ≡ h → ⊥
  last_or_before k j here before (inl same) is = here (rw (← same) is)
  last_or_before k j here before (inr low) is = before low is

  above-cons :
      (t : Bool) (k j l : ℕ) → eqb (slot k) h ≡ t → (l ≤ j → j < k → slot j ≡ h → ⊥) →
      cond t (suc k) l ≤ j → j < suc k → slot j ≡ h → ⊥
  above-cons true k j l e before high low is = omega arith
  above-cons false k j l e before high low is =
      last_or_before k j (eqb-false (slot k) h e) (before high) (eq-or-lt_of_le (omega arith)) is

  pub last_with_above : (k j : ℕ) → last_with s first h k ≤ j → j < k → slot j ≡ h → ⊥
  unfolding last_with
  last_with_above zero j high low is = omega arith
  last_with_above (suc k) j high low is =
      above-cons (eqb (slot k) h) k j (last_with s first h k) refl (last_with_above k j) high low is

-- A search has come to `next`: a meter of the first k may be found from there, and from the k-th on there is none.
pub record Walk (s : List ℕ) (first count a next : ℕ) : Type 0 where
  pub left : ℕ
  pub low : next ≤ count
  pub few : left ≤ count
  pub is : next ≡ last_with s first (slot_of a) left
  pub none : (j : ℕ) → left ≤ j → j < count → address_at s first j ≡ a → ⊥

pub walk_starts :
    {slots links s : List ℕ} {first count : ℕ} (a : ℕ) → Indexed slots links s first count →
    Walk s first count a (get_or slots (slot_of a) 0)
walk_starts {slots} {links} {s} {first} {count} a indexed =
    let is = indexed.of_slot (slot_of a) (omega arith) in
    record {
      left = count;
      low = omega (arith, is, last_with-le s first (slot_of a) count);
      few = omega arith;
      is = is;
      none = λ j far near. absurd (omega arith);
    }

pub walk_ends :
    (s : List ℕ) (first count a : ℕ) {next : ℕ} →
    Walk s first count a next →
    next ≡ 0 →
    (j : ℕ) → j < count → address_at s first j ≡ a → ⊥
walk_ends s first count a w ended j low here =
    let far : w.left < suc j = lt_of_not-le (λ (near : j < w.left).
    last_with_above s first (slot_of a) w.left j (omega (arith, w.is, ended)) near (ap slot_of here)) in
    w.none j (omega arith) low here

module _ (s : List ℕ) (first count a next : ℕ) (w : Walk s first count a next) (goes : next ≡ 0 → ⊥) where
  last : last_with s first (slot_of a) w.left ≡ suc (next - 1)
  last = omega (arith, w.is, goes)

  walk_low : next - 1 < count
  walk_low = omega (arith, w.low, goes)

  module _ (other : address_at s first (next - 1) ≡ a → ⊥) where
    passed : (i : ℕ) → next - 1 ≤ i → i < count → address_at s first i ≡ a → ⊥
    passed i far near here =
        let later : next - 1 < i = lt_of_not-le (λ (l : i ≤ next - 1).
        other (ap (address_at s first) (omega arith) ∙ here)) in
        let behind : w.left < suc i = lt_of_not-le (λ (l : i < w.left).
        last_with_above s first (slot_of a) w.left i (omega (arith, last)) l (ap slot_of here)) in
        w.none i (omega arith) near here

    module _ {slots links : List ℕ} (indexed : Indexed slots links s first count) where
      led : get_or links (next - 1) 0 ≡ last_with s first (slot_of a) (next - 1)
      led =
          indexed.of_meter (next - 1) walk_low
          ∙ ap (λ (h : ℕ). last_with s first h (next - 1)) (last_with_slot s first (slot_of a) w.left (next - 1) last)

      pub walk_less : get_or links (next - 1) 0 < next
      walk_less = omega (arith, led, last_with-le s first (slot_of a) (next - 1), goes)

      pub walk_next : Walk s first count a (get_or links (next - 1) 0)
      walk_next =
          record {
            left = next - 1;
            low = omega (arith, walk_less, w.low);
            few = omega (arith, walk_low);
            is = led;
            none = passed;
          }

pub indexed_none : (s : List ℕ) (first : ℕ) → Indexed (replicate 509 0) (replicate 64 0) s first 0
unfolding last_with
indexed_none s first =
    record { of_slot = λ h low. get_or-replicate 509 h 0 0 low; of_meter = λ j low. absurd (omega arith) }

pub indexed_from :
    {slots links s : List ℕ} {first : ℕ} (other : ℕ) → Indexed slots links s first 0 → Indexed slots links s other 0
unfolding last_with
indexed_from other is = record { of_slot = is.of_slot; of_meter = λ j low. absurd (omega arith) }

module _
    (slots links s : List ℕ) (first k : ℕ)
    (slots_size : 509 ≤ length slots)
    (links_size : 64 ≤ length links)
    (few : k < 64)
    (is : Indexed slots links s first k)
  where
    abbrev own : ℕ
    own = slot_of (address_at s first k)

    slots_next : (t : Bool) (h : ℕ) → eqb own h ≡ t → h < 509
        → get_or (set slots own (suc k)) h 0 ≡ cond t (suc k) (last_with s first h k)
    slots_next true h e low = rw (← eqb-true own h e) (get_or-set_same slots own (suc k) 0 (omega arith))
    slots_next false h e low =
        get_or-set_other slots own h (suc k) 0 (λ x. eqb-false own h e (sym x)) ∙ is.of_slot h low

    linked :
        (j : ℕ) →
        (j ≡ k) ⊎ (j < k) →
        get_or (set links k (get_or slots own 0)) j 0 ≡ last_with s first (slot_of (address_at s first j)) j
    linked j (inl same) =
        rw same (get_or-set_same links k (get_or slots own 0) 0 (omega arith) ∙ is.of_slot own (omega arith))
    linked j (inr low) =
        get_or-set_other links k j (get_or slots own 0) 0 (λ x. omega arith) ∙ is.of_meter j low

    pub indexed_next : Indexed (set slots own (suc k)) (set links k (get_or slots own 0)) s first (suc k)
    unfolding last_with
    indexed_next =
        record {
          of_slot = λ h low. slots_next (eqb own h) h refl low;
          of_meter = λ j low. linked j (eq-or-lt_of_le (omega arith));
        }
