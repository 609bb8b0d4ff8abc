-- How far lists are apart (specs/Apart).
--     apart_self       a list differs nowhere from itself
--     same_first, other_first, first_most    one element more in front
--     apart-zero       two lists of one length that differ nowhere are one
--     apart_comm       from either side
--     apart-append     fronts of one length are compared by themselves
--     apart-set        a store makes a difference at one place at most
--     apart_through    two lists are no farther apart than both together are from a third one of their length
-- Assumes nothing.
use mathlib.Core.Bool.{Bool, true, false, cond}
use mathlib.Core.Path.{◌≡◌, refl, sym, ap, ap₂, ◌∙◌}
use mathlib.Core.List.{List, [], ◌∷◌, ◌++◌}
use Prim.Native.Nat.{ℕ, zero, suc, ◌+◌, ◌≤◌}
use borrow.Author.Tests.{eqb-true, eqb-false, eq-eqb, ne_eqb}
use native.Mathlib.Omega.{arith}
use lib.Dec.{eqb}
use lib.ListN.{length, set}
use Rattle.ground.specs.Apart.{apart}
use Rattle.ground.proofs.CaseLaws.{by_test}

pub same_first : (x y : ℕ) (u v : List ℕ) → x ≡ y → apart (x ∷ u) (y ∷ v) ≡ apart u v
unfolding apart
same_first x y u v e = let n : 0 + apart u v ≡ apart u v = omega arith in rw (eq-eqb x y e) n

pub other_first : (x y : ℕ) (u v : List ℕ) → (x ≡ y → ⊥) → apart (x ∷ u) (y ∷ v) ≡ 1 + apart u v
unfolding apart
other_first x y u v e = rw (ne_eqb x y e)

one_place : (t : Bool) (n : ℕ) → cond t 0 1 + n ≤ 1 + n
one_place true n = omega arith
one_place false n = omega arith

pub first_most : (x y : ℕ) (u v : List ℕ) → apart (x ∷ u) (y ∷ v) ≤ 1 + apart u v
unfolding apart
first_most x y u v = one_place (eqb x y) (apart u v)

pub apart_self : (u : List ℕ) → apart u u ≡ 0
unfolding apart
apart_self [] = refl
apart_self (x ∷ u) = same_first x x u u refl ∙ apart_self u

pub apart-zero : (u v : List ℕ) → length u ≡ length v → apart u v ≤ 0 → u ≡ v
apart-zero [] [] e z = refl
apart-zero [] (y ∷ v) e z = absurd (omega arith)
apart-zero (x ∷ u) [] e z = absurd (omega arith)
apart-zero (x ∷ u) (y ∷ v) e z =
    by_test (eqb x y)
    (λ t. let same = eqb-true x y t in
    ap₂ (λ (a : ℕ) (l : List ℕ). a ∷ l) same
    (apart-zero u v (omega arith) (omega (arith, same_first x y u v same))))
    (λ t. absurd (omega (arith, other_first x y u v (eqb-false x y t))))

pub apart_comm : (u v : List ℕ) → apart u v ≡ apart v u
unfolding apart
apart_comm [] [] = refl
apart_comm [] (y ∷ v) = refl
apart_comm (x ∷ u) [] = refl
apart_comm (x ∷ u) (y ∷ v) =
    by_test (eqb x y)
    (λ t. let same = eqb-true x y t in
    same_first x y u v same ∙ apart_comm u v ∙ sym (same_first y x v u (sym same)))
    (λ t. let other = eqb-false x y t in
    other_first x y u v other ∙ ap (λ (n : ℕ). 1 + n) (apart_comm u v) ∙ sym (other_first y x v u (λ e. other (sym e))))

pub apart-append : (s t u v : List ℕ) → length s ≡ length t → apart (s ++ u) (t ++ v) ≡ apart s t + apart u v
unfolding apart
apart-append [] [] u v e = omega arith
apart-append [] (y ∷ t) u v e = absurd (omega arith)
apart-append (x ∷ s) [] u v e = absurd (omega arith)
apart-append (x ∷ s) (y ∷ t) u v e = omega (arith, apart-append s t u v (omega arith))

pub apart-set : (u : List ℕ) (i x : ℕ) → apart u (set u i x) ≤ 1
unfolding apart
apart-set [] i x = omega arith
apart-set (y ∷ u) zero x = omega (arith, first_most y x u u, apart_self u)
apart-set (y ∷ u) (suc i) x = omega (arith, same_first y y u (set u i x) refl, apart-set u i x)

-- one place: t and u tell whether x and y are r, v whether they are the same
one_through : (t u v : Bool) → (t ≡ true → u ≡ true → v ≡ true) → cond v 0 1 ≤ cond t 0 1 + cond u 0 1
one_through true true true h = omega arith
one_through true true false h = absurd (omega (arith, ap {B = ℕ} (λ (b : Bool). cond b 1 0) (h refl refl)))
one_through true false true h = omega arith
one_through true false false h = omega arith
one_through false u true h = omega arith
one_through false true false h = omega arith
one_through false false false h = omega arith

pub apart_through : (r u v : List ℕ) → length r ≡ length u → length r ≡ length v → apart u v ≤ apart r u + apart r v
unfolding apart
apart_through r [] v eu ev = omega arith
apart_through r (x ∷ u) [] eu ev = omega arith
apart_through [] (x ∷ u) (y ∷ v) eu ev = absurd (omega arith)
apart_through (z ∷ r) (x ∷ u) (y ∷ v) eu ev =
    omega (
      arith,
      apart_through r u v (omega arith) (omega arith),
      one_through (eqb z x) (eqb z y) (eqb x y)
          (λ p q. eq-eqb x y (sym (eqb-true z x p) ∙ eqb-true z y q)),
    )
