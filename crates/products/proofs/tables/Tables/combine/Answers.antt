-- `products::tables::Tables::combine` meets its contract: after each coefficient, what was folded is the sum of the
-- products so far. Assumes nothing.
use Rattle.std.proofs.Common.{◌≡◌, ◌++◌, ◌∷◌, [], ℕ, List, ap, ◌∙◌, sym, refl, rules, bit_xor, drop, reverse, zip}
use Rattle.std.proofs.Common.{arith, length-drop, take_all, take, ◌-◌}
use Rattle.std.proofs.lemmas.Fn.{fold_over, fronts}
use Rattle.std.proofs.lemmas.Iterator.{YieldsList-from_slice, YieldsList-from_zip, zips}
use Rattle.std.proofs.lemmas.Iterator.Adapters.{YieldsList-from_rev_slice}
use Rattle.std.specs.Iterator.Adapters.{rev_steps, zip_second}
use Rattle.std.specs.Slice.Iter.{iter_rest, iter_steps_back}
use Rattle.field.specs.Field.{mul}
use Rattle.products.proofs.TotalLaws.{total, total-push, total_zip}
use Rattle.products.proofs.tables.Tables.combine.Goals as goal

next : (ps : List (ℕ × ℕ)) (a x y b : ℕ) → a ≡ total ps → b ≡ bit_xor a (mul x y) → b ≡ total (ps ++ ((x, y) ∷ []))
next ps a x y b so_far e = e ∙ ap (λ (z : ℕ). bit_xor z (mul x y)) so_far ∙ sym (total-push ps x y)

pub returns : goal.returns
unfolding total
returns c =
    let s = c.args.s.now in
    let v = c.args.v.now in
    let i = c.args.i in
    let rest : iter_rest (zip_second c.zip.result) ≡ take (32 - i) (drop i s) = search rules in
    let whole : take (32 - i) (drop i s) ≡ drop i s
    = take_all (32 - i) (drop i s) (omega (arith, length-drop i s)) in
    fold_over (zips (rev_steps iter_steps_back) fronts) (λ p. (p.0.now, p.1.now)) _ (λ ps a. a ≡ total ps) _
    (λ ps a p b f' so_far h. (next ps a p.0.now p.1.now b so_far (search rules), search rules)) c.zip.result
    (zip (reverse v) (drop i s)) 0 c.fold.result
    (YieldsList-from_zip {s = c.zip.result} (YieldsList-from_rev_slice v (search rules))
    (YieldsList-from_slice (drop i s) (rest ∙ whole))).runs refl c.fold.ensures.ran
    ∙ total_zip s v i (omega arith)
