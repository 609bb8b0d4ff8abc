-- `products::tables::Tables::value_at` meets its contract: after each byte, what was folded is the value of the bytes
-- so far. Assumes nothing.
use Rattle.std.proofs.Common.{◌≡◌, ◌++◌, ◌∷◌, [], ℕ, List, ap, ◌∙◌, sym, refl, rules, bit_xor}
use Rattle.std.proofs.lemmas.Fn.{fold_over, fronts}
use Rattle.std.proofs.lemmas.Iterator.{YieldsList-from_slice}
use Rattle.field.specs.Field.{alpha_to, mul}
use Rattle.field.specs.Polynomials.{eval_from, value_at}
use Rattle.field.proofs.PolynomialLaws.{eval_append}
use Rattle.products.proofs.tables.Tables.value_at.Goals as goal

next : (r : ℕ) (ys : List ℕ) (a x b : ℕ) → a ≡ value_at r ys → b ≡ bit_xor (mul a r) x → b ≡ value_at r (ys ++ (x ∷ []))
unfolding eval_from
next r ys a x b j e = e ∙ ap (λ (v : ℕ). bit_xor (mul v r) x) j ∙ sym (eval_append r 0 ys (x ∷ []))

pub returns : goal.returns
unfolding eval_from
returns c =
    let r = alpha_to c.args.k in
    fold_over fronts (λ y. y.now) _ (λ ys a. a ≡ value_at r ys) _
    (λ ys a x b f' j h. (next r ys a x.now b j (search rules), search rules)) _ c.args.w.now 0 c.fold.result
    (YieldsList-from_slice {s = c.iter.result} c.args.w.now (cc)).runs refl c.fold.ensures.ran
