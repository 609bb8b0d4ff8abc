-- What the inner functions of repairing cite. A place is the number of bytes behind a byte; its locator is g to that.
--     added w i e              w with e added to its byte i
--     Held w s                 s are the values of w at the 32 roots
--     term e p k               what e at place p adds to the value at root k
--     Followed s p e t         t are the values s after e was added at place p
--     Tells s v y p e          e times y and the power of the locator is what v combines the values to
--     Word u w s               u was received, w is what it is made to, its first byte the same, and s are its values
--     Coefficients v d         v begins with the d + 1 coefficients of a polynomial, the first of them not 0
--     Settled u w v d p        where a code word is near u, each byte of w is this one's, or its place is p or behind
--                              it and the polynomial is 0 at its locator
--     Going u w s v d p        the state of the scan; at most 16 bytes of u differ from w, those to come included
--     Ready w v d p            what the scan of one place needs of it
--     Moves ..                 one place scanned: the state goes on
--     Ended u w s              the scan is over: if a code word is near u, it is w
use Rattle.std.specs.Prelude.{Bool, true, List, ◌⊎◌, ◌↔◌, ◌≡◌, ℕ, suc, ◌+◌, ◌-◌, ◌*◌, ◌≤◌, ◌<◌, length, get_or, set, take}
use Rattle.std.specs.Int.Bits.{bit_xor}
use Rattle.ground.specs.Apart.{apart}
use Rattle.ground.specs.Bytes.{Bytes}
use Rattle.field.specs.Field.{mul, alpha_to}
use Rattle.field.specs.Polynomials.{value_at}
use Rattle.locators.specs.Combinations.{combined}
use Rattle.codewords.specs.CodeBlocks.{root}
use Rattle.proposals.specs.Near.{Near}

abbrev pub added : List ℕ → ℕ → ℕ → List ℕ
added w i e = set w i (bit_xor (get_or w i 0) e)

pub record Held (w s : List ℕ) : Type 0 where
  pub count : length s ≡ 32
  pub values : (k : ℕ) → k < 32 → get_or s k 0 ≡ value_at (root k) w

abbrev pub term : ℕ → ℕ → ℕ → ℕ
term e p k = mul e (alpha_to (11 * ((112 + k) * p)))

pub record Followed (s : List ℕ) (p e : ℕ) (t : List ℕ) : Type 0 where
  pub count : length t ≡ 32
  pub values : (k : ℕ) → k < 32 → get_or t k 0 ≡ bit_xor (get_or s k 0) (term e p k)

pub record Tells (s v : List ℕ) (y p e : ℕ) : Type 0 where
  pub byte : e < 256
  pub is : mul e (term y p 0) ≡ combined s v 0

pub record Word (u w s : List ℕ) : Type 0 where
  pub some : 0 < length u
  pub most : length u ≤ 255
  pub count : length w ≡ length u
  pub bytes : Bytes w
  pub first : get_or w 0 0 ≡ get_or u 0 0
  pub held : Held w s

pub record Coefficients (v : List ℕ) (d : ℕ) : Type 0 where
  pub room : d < length v
  pub short : length v ≤ 17
  pub bytes : Bytes v
  pub lead : 0 < get_or v 0 0

abbrev pub Settled : List ℕ → List ℕ → List ℕ → ℕ → ℕ → Type 0
Settled u w v d p =
    (c : List ℕ) → Near 16 u c → (i : ℕ) → i < length u
    → (get_or w i 0 ≡ get_or c i 0)
    ⊎ ((i + p < length u) × (value_at (alpha_to (11 * (length u - suc i))) (take (suc d) v) ≡ 0))

pub record Going (u w s v : List ℕ) (d p : ℕ) : Type 0 where
  pub word : Word u w s
  pub few : apart u w + d ≤ 16
  pub coefficients : Coefficients v d
  pub place : p < length u
  pub settled : Settled u w v d p

pub record Ready (w v : List ℕ) (d p : ℕ) : Type 0 where
  pub most : length w ≤ 255
  pub room : d < length v
  pub short : length v ≤ 17
  pub some : 0 < d
  pub inside : p + 1 < length w

pub record Moves (w s v : List ℕ) (d p : ℕ) (w' s' v' : List ℕ) (d' p' : ℕ) : Type 0 where
  pub count : length v' ≡ length v
  pub less : length w - p' + d' < length w - p + d
  pub goes : (u : List ℕ) → Going u w s v d p → Going u w' s' v' d' p'

pub record Ended (u w s : List ℕ) : Type 0 where
  pub word : Word u w s
  pub few : apart u w ≤ 16
  pub right : (c : List ℕ) → Near 16 u c → w ≡ c
