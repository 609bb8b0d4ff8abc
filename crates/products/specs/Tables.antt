-- What the tables of products hold.
--     TablesOk powers logs    alpha^k stands at k among the powers, for k below 511, and 0 from there on; among the
--                             logarithms k stands at alpha^k, for k below 255, and 511 at 0
use Rattle.std.specs.Prelude.{List, ◌≡◌, ℕ, ◌≤◌, ◌<◌, length, get_or}
use Rattle.field.specs.Field.{alpha_to}

pub record TablesOk (powers logs : List ℕ) : Type 0 where
  pub count : length powers ≡ 1024
  pub logs_count : length logs ≡ 256
  pub power : (k : ℕ) → k < 511 → get_or powers k 0 ≡ alpha_to k
  pub none : (k : ℕ) → 511 ≤ k → get_or powers k 0 ≡ 0
  pub log : (k : ℕ) → k < 255 → get_or logs (alpha_to k) 0 ≡ k
  pub log_zero : get_or logs 0 0 ≡ 511
