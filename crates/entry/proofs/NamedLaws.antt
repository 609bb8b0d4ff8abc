-- What M says, as the row of the exported call has it (kusikhut/specs/Told).
--     told-zero       the call is never refused
--     told-letters, told_none    its first four results are letters, or zeros, exactly in their cases
-- Assumes nothing.
use mathlib.Core.List.{List, [], ◌∷◌, ◌++◌}
use mathlib.Core.Logic.{◌↔◌}
use mathlib.Core.Path.{◌≡◌, refl, sym, ◌∙◌, ap}
use Prim.Native.Nat.{ℕ, ◌+◌}
use lib.ListN.{take, replicate}
use Rattle.std.specs.Prelude.{Option, Some, None}
use Rattle.ground.proofs.CaseLaws.{zero_not_one}
use Rattle.address.specs.Makers.{maker_of}
use Rattle.kusikhut.specs.Told.{Told, told, reach_number, spelling_row, told_maker}
use Rattle.demands.specs.Cases.{Spells}
use Rattle.demands.proofs.Demands.{plain}

row-letters : (l : Option (ℕ × ℕ × ℕ)) (k : ℕ) → take 4 (spelling_row l ++ (k ∷ [])) ≡ spelling_row l
row-letters (Some (a, b, c)) k = refl
row-letters None k = refl

three_row : (l : Option (ℕ × ℕ × ℕ)) (x y z : ℕ) → spelling_row l ≡ 1 ∷ x ∷ y ∷ z ∷ [] → l ≡ Some (x, y, z)
three_row (Some (a, b, c)) x y z e = cc
three_row None x y z e = absurd (zero_not_one (cc))

none_row : (l : Option (ℕ × ℕ × ℕ)) → spelling_row l ≡ replicate 4 0 → l ≡ None
none_row (Some (a, b, c)) e = absurd (zero_not_one (cc))
none_row None e = refl

-- which it is, if it is not three letters
no_three : (l : Option (ℕ × ℕ × ℕ)) → ((x y z : ℕ) → l ≡ Some (x, y, z) → ⊥) → l ≡ None
no_three (Some (a, b, c)) none = absurd (none a b c refl)
no_three None none = refl

module _ (m : ℕ) {r : ℕ} {row : List ℕ} (e : told r row ≡ told_maker (maker_of m)) where
  abbrev l : Option (ℕ × ℕ × ℕ)
  l = (maker_of m).spelled

  maker_row : row ≡ spelling_row l ++ (reach_number (maker_of m).reach ∷ [])
  maker_row = ap (λ (t : Told ℕ). t.results) e

  four : take 4 row ≡ spelling_row l
  four = ap (take 4) maker_row ∙ row-letters l _

  pub told-zero : r ≡ 0
  told-zero = ap (λ (t : Told ℕ). t.number) e

  pub told-letters : (x y z : ℕ) → (take 4 row ≡ 1 ∷ x ∷ y ∷ z ∷ []) ↔ Spells m x y z
  told-letters x y z =
      let is = plain.letters m x y z in
      (λ t. is.0 (three_row l x y z (sym four ∙ t)), λ s. four ∙ ap spelling_row (is.1 s))

  pub told_none : (take 4 row ≡ replicate 4 0) ↔ ((x y z : ℕ) → Spells m x y z → ⊥)
  told_none = (
    λ t x y z s. let both = (plain.letters m x y z).1 s in
        let none = none_row l (sym four ∙ t) in zero_not_one (cc),
    λ none. four ∙ ap spelling_row (no_three l (λ x y z t. none x y z ((plain.letters m x y z).0 t))),
  )
