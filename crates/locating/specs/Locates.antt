-- What a locator is. A polynomial has 17 coefficients here, that of the power 16 first.
--     Poly low v       v is a polynomial, its first coefficient but 0 stands at place low and is 1
--     Locates s v d    v has degree d and combines the values s to 0, sixteen times in a row
use Rattle.std.specs.Prelude.{List, ◌≡◌, ℕ, ◌-◌, ◌≤◌, ◌<◌, length, get_or}
use Rattle.ground.specs.Bytes.{Bytes}
use Rattle.locators.specs.Combinations.{combined}

pub record Poly (low : ℕ) (v : List ℕ) : Type 0 where
  pub count : length v ≡ 17
  pub bytes : Bytes v
  pub within : low ≤ 16
  pub zeros : (t : ℕ) → t < low → get_or v t 0 ≡ 0
  pub lead : get_or v low 0 ≡ 1

pub record Locates (s v : List ℕ) (d : ℕ) : Type 0 where
  pub degree : d ≤ 16
  pub poly : Poly (16 - d) v
  pub all : (i : ℕ) → i < 16 → combined s v i ≡ 0
