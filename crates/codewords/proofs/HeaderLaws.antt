-- The correction header, as its reader takes it: h is what it read of the first two bytes, i the ID that it found.
--     announced_short      under two bytes
--     announced_known      two bytes or more, the ID in the first two is 1
--     announced_unknown    it is not
-- Assumes nothing.
use mathlib.Core.Bool.{cond}
use Rattle.std.specs.Prelude.{Ok, Err}
use mathlib.Core.Path.{◌≡◌, refl, ◌∙◌}
use mathlib.Core.List.{List, [], ◌∷◌}
use Prim.Native.Nat.{ℕ, ◌+◌, ◌*◌, ◌≤◌, ◌<◌}
use native.Mathlib.Omega.{arith}
use borrow.Author.Tests.{eq-eqb, ne_eqb}
use lib.Dec.{eqb}
use lib.ListN.{length, get_or}
use Rattle.answers.specs.declared.Refusal.{Refusal}
use Rattle.codewords.specs.Corrections.{id_of, announced_of}

pub announced_short : (s : List ℕ) → length s < 2 → announced_of s ≡ Err Refusal.Short
unfolding announced_of
announced_short [] h = refl
announced_short (l ∷ []) h = refl
announced_short (l ∷ h ∷ s) few = absurd (omega arith)

announced_by : (s : List ℕ) → 2 ≤ length s
    → announced_of s
    ≡ cond (eqb (id_of (get_or s 0 0 + 256 * get_or s 1 0)) 1) (Ok tt) (Err Refusal.UnknownCode)
unfolding announced_of
announced_by [] few = absurd (omega arith)
announced_by (l ∷ []) few = absurd (omega arith)
announced_by (l ∷ h ∷ s) few = refl

module _
    (s : List ℕ) {h i : ℕ} (two : 2 ≤ length s) (read : h ≡ get_or s 0 0 + 256 * get_or s 1 0)
    (found : i ≡ id_of h) where
  announced_as : announced_of s ≡ cond (eqb i 1) (Ok tt) (Err Refusal.UnknownCode)
  announced_as = announced_by s two ∙ rw (found, read)

  pub announced_known : i ≡ 1 → announced_of s ≡ Ok tt
  announced_known is = announced_as ∙ rw (eq-eqb i 1 is)

  pub announced_unknown : (i ≡ 1 → ⊥) → announced_of s ≡ Err Refusal.UnknownCode
  announced_unknown not = announced_as ∙ rw (ne_eqb i 1 not)
