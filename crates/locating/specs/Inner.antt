-- What the inner functions of the search cite. The column i of a polynomial is what the values s from i on are when it
-- combines them (locators/specs/Combinations).
--     Slot s i low lead p        p is kept for column i: 0 before it, `lead` there, and of a lower degree than what
--                                has its 1 at place low
--     Slots s kept low           what is kept, by column
--     Cleared v p lead sum u     u is v with that multiple of p added that makes `sum` of the lead
--     Reducing s low v i         v is a polynomial, and 0 before column i
--     Stands s kept v i x        at column i x stands, not 0, and nothing is kept for it
--     Stepped s kept low i v x   v is a polynomial, and 0 up to column i, or before it, and x stands there
--     Reduced s kept low v r     v is 0 in all columns, or before the one that was reached, and there it has r's sum
use Rattle.std.specs.Prelude.{List, Option, None, Some, ◌≡◌, ℕ, ◌+◌, ◌≤◌, ◌<◌, length, get_or}
use Rattle.ground.specs.Bytes.{Bytes}
use Rattle.ground.specs.Sums.{xors}
use Rattle.field.specs.Field.{mul}
use Rattle.field.specs.Polynomials.{scaled}
use Rattle.locators.specs.Combinations.{combined}
use Rattle.locating.specs.Locates.{Poly}
use Rattle.locating.specs.declared.reducing.Kept.{Kept}
use Rattle.locating.specs.declared.reducing.Reached.{Reached}

pub record Slot (s : List ℕ) (i low lead : ℕ) (p : List ℕ) : Type 0 where
  pub count : length p ≡ 17
  pub bytes : Bytes p
  pub zeros : (t : ℕ) → t ≤ low → get_or p t 0 ≡ 0
  pub before : (k : ℕ) → k < i → combined s p k ≡ 0
  pub here : combined s p i ≡ lead

pub record Slots (s : List ℕ) (kept : List (Option Kept)) (low : ℕ) : Type 0 where
  pub count : length kept ≡ 16
  pub slot : (i : ℕ) → i < 16 → (k : Kept) → get_or kept i None ≡ Some k → (0 < k.lead) × Slot s i low k.lead k.row

pub record Cleared (v p : List ℕ) (lead sum : ℕ) (u : List ℕ) : Type 0 where
  pub factor : ℕ
  pub small : factor < 256
  pub makes : mul factor lead ≡ sum
  pub is : u ≡ xors v (scaled factor p)

pub record Reducing (s : List ℕ) (low : ℕ) (v : List ℕ) (i : ℕ) : Type 0 where
  pub poly : Poly low v
  pub before : (k : ℕ) → k < i → combined s v k ≡ 0

pub record Stands (s : List ℕ) (kept : List (Option Kept)) (v : List ℕ) (i x : ℕ) : Type 0 where
  pub within : i < 16
  pub here : combined s v i ≡ x
  pub some : 0 < x
  pub free : get_or kept i None ≡ None

abbrev pub Stepped : List ℕ → List (Option Kept) → ℕ → ℕ → List ℕ → Option ℕ → Type 0
Stepped s kept low i v None = Reducing s low v (i + 1)
Stepped s kept low i v (Some x) = Reducing s low v i × Stands s kept v i x

abbrev pub Reduced : List ℕ → List (Option Kept) → ℕ → List ℕ → Option Reached → Type 0
Reduced s kept low v None = Reducing s low v 16
Reduced s kept low v (Some r) = Reducing s low v r.column × Stands s kept v r.column r.sum
