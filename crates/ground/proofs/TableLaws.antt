-- Facts about every number below a bound, shown by letting antt compute them one after the other.
--     values f n i    the list f i, f (i + 1), .., of n entries
--     get_or_values     entry k of a table that lists f from 0 is f k
--     all_below f n    the test f passes at every number below n
--     all_below_at     then it passes at each of them
--     passed          a test that passes is true
--     all_bytes       a list whose elements pass the test, one by one, is of bytes
-- A table of the source that follows a rule f is `values f n 0` by computation: `get_or_values` is its whole proof.
-- Assumes nothing.
use mathlib.Core.Path.{◌≡◌, refl, ap, ◌∙◌, sym, subst}
use mathlib.Core.Logic.{⊎_elim}
use mathlib.Core.Bool.{Bool, true, false, ◌&&◌}
use mathlib.Core.List.{List, [], ◌∷◌}
use Prim.Native.Nat.{ℕ, zero, suc, ◌+◌, ◌<◌}
use native.Mathlib.Nat.{le_of_suc-le-suc, not-suc-le-zero, eq-or-lt_of_le}
use native.Mathlib.Omega.{arith}
use borrow.Author.Tests.{ltb-true, ltb-false}
use lib.Dec.{T, ltb, ltb→lt}
use lib.Ieee.Fits.{and_l, and_r}
use lib.ListN.{length, get_or, get_or-eq_default}
use Rattle.ground.specs.Bytes.{Bytes}
use Rattle.ground.proofs.CaseLaws.{by_test}

abbrev pub values : {A : Type 0} → (ℕ → A) → ℕ → ℕ → List A
values f zero i = []
values f (suc n) i = f i ∷ values f n (suc i)

get_or_values_from : {A : Type 0} (f : ℕ → A) (n i k : ℕ) (d : A) → k < n → get_or (values f n i) k d ≡ f (i + k)
get_or_values_from f zero i k d h = absurd (not-suc-le-zero h)
get_or_values_from f (suc n) i zero d h =
    let e : i ≡ i + 0 = omega arith in
    ap f e
get_or_values_from f (suc n) i (suc k) d h =
    let e : suc i + k ≡ i + suc k = omega arith in
    get_or_values_from f n (suc i) k d (le_of_suc-le-suc h) ∙ ap f e

pub get_or_values : {A : Type 0} (f : ℕ → A) (n k : ℕ) (d : A) → k < n → get_or (values f n 0) k d ≡ f k
get_or_values f n k d h =
    let e : 0 + k ≡ k = omega arith in
    get_or_values_from f n 0 k d h ∙ ap f e

abbrev pub all_below : (ℕ → Bool) → ℕ → Bool
all_below f zero = true
all_below f (suc n) = f n && all_below f n

pub all_below_at : (f : ℕ → Bool) (n : ℕ) → T (all_below f n) → (k : ℕ) → k < n → T (f k)
all_below_at f zero t k h = absurd (not-suc-le-zero h)
all_below_at f (suc n) t k h =
    ⊎_elim (λ e. subst (λ (m : ℕ). T (f m)) (sym e) (and_l (f n) (all_below f n) t))
    (λ l. all_below_at f n (and_r (f n) (all_below f n) t) k l) (eq-or-lt_of_le (le_of_suc-le-suc h))

pub passed : (t : Bool) → T t → t ≡ true
passed true p = refl
passed false p = absurd p

pub all_bytes : (w : List ℕ) → T (all_below (λ j. ltb (get_or w j 0) 256) (length w)) → Bytes w
all_bytes w t j =
    by_test (ltb j (length w))
    (λ e. ltb→lt (get_or w j 0) 256
    (all_below_at (λ i. ltb (get_or w i 0) 256) (length w) t j (ltb-true j (length w) e)))
    (λ e. rw (get_or-eq_default w 0 (ltb-false j (length w) e)) (omega arith))
