-- What the inner functions of mending cite. A fault is one wrong byte, its place and its error, or None.
--     remainder_of w          the last 32 bytes of w and the check bytes of those before, added
--     Locates x y n r        if x and y are the values at the first two roots of one wrong byte with p bytes behind it
--                            in a word of n bytes, r is its place and its error; and None where x is 0
--     Tried w a m            m is w with the error of a added at its place if that is a code word, else w
use Rattle.std.specs.Prelude.{cond, List, Option, Some, None, IfSome, ◌≡◌, ℕ, suc, ◌+◌, ◌-◌, ◌*◌, ◌<◌, length, take, drop}
use Rattle.ground.specs.Sums.{xors}
use Rattle.field.specs.Field.{mul, alpha_to}
use Rattle.codewords.specs.CheckBytes.{checks_of}
use Rattle.proposals.specs.Near.{Near, is_code_block}
use Rattle.repairing.specs.Inner.{added}
use Rattle.mending.specs.declared.single.Fault.{Fault}

abbrev pub remainder_of : List ℕ → List ℕ
remainder_of w = let end = length w - 32 in xors (drop end w) (checks_of (take end w))

abbrev pub Inside : ℕ → Option Fault → Type 0
Inside n r = IfSome r (λ a. (a.place < n) × (a.error < 256))

pub record Locates (x y n : ℕ) (r : Option Fault) : Type 0 where
  pub inside : Inside n r
  pub none : x ≡ 0 → r ≡ None
  pub one :
      (e p : ℕ) → 0 < e → e < 256 → p < n → n < 256
      → x ≡ mul e (alpha_to (11 * (112 + 0) * p)) → y ≡ mul e (alpha_to (11 * (112 + 1) * p))
      → r ≡ Some (record { place = n - suc p; error = e })

abbrev pub Tried : List ℕ → Fault → List ℕ → Type 0
Tried w a m = let v = added w a.place a.error in m ≡ cond (is_code_block v) v w
