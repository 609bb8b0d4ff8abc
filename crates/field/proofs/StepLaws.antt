-- Powers of g = alpha^11, whose powers 112 to 143 are the roots of the generator.
--     step_to          g^n
--     step_to-add      a product of powers
--     steps_differ    the powers 0 to 254 are all different, since 11 has no factor in common with 255
-- Assumes nothing.
use Rattle.std.proofs.Common.{Bool, ◌≡◌, sym, ap, ◌∙◌, ℕ, ◌+◌, ◌*◌, ◌%◌, ◌<◌, arith, eqb, eqb→eq}
use Rattle.ground.proofs.TableLaws.{all_below_at}
use Rattle.field.specs.Field.{mul, alpha_to}
use Rattle.field.proofs.PowerLaws.{alpha_to-add, alpha_to-mod}
use Rattle.field.proofs.PrimitiveLaws.{powers_differ}

abbrev pub step_to : ℕ → ℕ
step_to n = alpha_to (11 * n)

pub step_to-add : (m n : ℕ) → mul (step_to m) (step_to n) ≡ step_to (m + n)
step_to-add m n =
    let e : 11 * m + 11 * n ≡ 11 * (m + n) = omega arith in
    alpha_to-add (11 * m) (11 * n) ∙ ap alpha_to e

-- 11 times 116 is 1 more than a multiple of 255, so times 116 leads back
turned : ℕ → Bool
turned p = eqb (116 * (11 * p % 255) % 255) p

back : (p : ℕ) → p < 255 → 116 * (11 * p % 255) % 255 ≡ p
unfolding turned
back p h = eqb→eq _ p (all_below_at turned 255 tt p h)

pub steps_differ : (p q : ℕ) → p < 255 → q < 255 → step_to p ≡ step_to q → p ≡ q
steps_differ p q hp hq e =
    sym (back p hp)
    ∙ ap (λ (x : ℕ). 116 * x % 255)
    (powers_differ (11 * p % 255) (11 * q % 255) (omega arith) (omega arith)
    (sym (alpha_to-mod (11 * p)) ∙ e ∙ alpha_to-mod (11 * q)))
    ∙ back q hq
