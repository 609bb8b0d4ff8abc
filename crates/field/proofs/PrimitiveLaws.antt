-- Alpha is primitive: its powers 0 to 254 are all different, and they are all elements but 0. antt computes both over a
-- list of the powers, which is made step by step.
--     log                      which power of alpha an element is, looked up in that list
--     log-lt, alpha_to_log      each of 1 to 255 is one of the powers 0 to 254
--     log-alpha_to              the power p is found at p
--     powers_differ            so no two of them are one
--     mul_cancel               no two elements but 0 have the product 0
-- Assumes nothing.
use Rattle.std.proofs.Common.{Bool, true, false, ◌≡◌, sym, ap, ◌∙◌, List, [], ◌∷◌, ℕ, zero, suc, ◌+◌, ◌<◌, arith}
use Rattle.std.proofs.Common.{zero-add, add-zero, eqb, eqb→eq, ltb, ltb→lt, get_or}
use Rattle.ground.proofs.TableLaws.{all_below_at}
use Rattle.field.specs.Field.{up, mul, alpha_to}
use Rattle.field.proofs.PowerLaws.{power_cancel}

-- ---- the list of the powers, and where an element stands in it

powers_from : ℕ → ℕ → List ℕ
powers_from zero a = []
powers_from (suc n) a = a ∷ powers_from n (up a)

get_or_powers : (n j k : ℕ) → k < n → get_or (powers_from n (alpha_to j)) k 0 ≡ alpha_to (j + k)
unfolding powers_from alpha_to
get_or_powers zero j k h = absurd (omega arith)
get_or_powers (suc n) j zero h = ap alpha_to (sym (add-zero j))
get_or_powers (suc n) j (suc k) h =
    let e : suc j + k ≡ j + suc k = omega arith in
    get_or_powers n (suc j) k (omega arith) ∙ ap alpha_to e

index_of : ℕ → List ℕ → ℕ
index_of x [] = 0
index_of x (y ∷ ys) = elim (eqb x y) [ true ↦ 0 | false ↦ suc (index_of x ys) ]

powers : List ℕ
powers = powers_from 255 1

power_at : (p : ℕ) → p < 255 → get_or powers p 0 ≡ alpha_to p
unfolding powers alpha_to
power_at p h = get_or_powers 255 0 p h ∙ ap alpha_to (zero-add p)

pub log : ℕ → ℕ
log b = index_of b powers

-- ---- every element but 0 stands there, and every power where it should: as antt works them out

listed : ℕ → Bool
listed n = ltb (log (suc n)) 255

pub log-lt : (b : ℕ) → 0 < b → b < 256 → log b < 255
unfolding listed log powers powers_from index_of up
log-lt zero pos h = absurd (omega arith)
log-lt (suc n) pos h = ltb→lt (log (suc n)) 255 (all_below_at listed 255 tt n (omega arith))

found : ℕ → Bool
found n = eqb (get_or powers (log (suc n)) 0) (suc n)

pub alpha_to_log : (b : ℕ) → 0 < b → b < 256 → alpha_to (log b) ≡ b
unfolding found log powers powers_from index_of up
alpha_to_log zero pos h = absurd (omega arith)
alpha_to_log (suc n) pos h =
    sym (power_at (log (suc n)) (log-lt (suc n) pos h))
    ∙ eqb→eq _ (suc n) (all_below_at found 255 tt n (omega arith))

placed : ℕ → Bool
placed p = eqb (log (get_or powers p 0)) p

pub log-alpha_to : (p : ℕ) → p < 255 → log (alpha_to p) ≡ p
unfolding placed log powers powers_from index_of up
log-alpha_to p h = ap log (sym (power_at p h)) ∙ eqb→eq _ p (all_below_at placed 255 tt p h)

-- ---- what follows

pub powers_differ : (p q : ℕ) → p < 255 → q < 255 → alpha_to p ≡ alpha_to q → p ≡ q
powers_differ p q hp hq e = sym (log-alpha_to p hp) ∙ ap log e ∙ log-alpha_to q hq

pub mul_cancel : (a b : ℕ) → a < 256 → b < 256 → 0 < b → mul a b ≡ 0 → a ≡ 0
mul_cancel a b ha hb pos z = power_cancel a (log b) ha (ap (mul a) (alpha_to_log b pos hb) ∙ z)
