-- Worked examples, computed: the content of Annex C.2 against a filter that has its name second.
use mathlib.Core.List.{List, [], ◌∷◌, map}
use mathlib.Core.Path.{◌≡◌, refl}
use Prim.Native.Nat.{ℕ}
use lib.ListN.{take, replicate}
use Rattle.std.specs.Prelude.{true, false, Ok, Err}
use Rattle.answers.specs.declared.Refusal.TheVariants.{OutOfRange, BadContent}
use Rattle.address.specs.Names.{name_of, same_bytes}
use Rattle.filter.specs.Listed.{listed, verdict_of}

abbrev content : List ℕ
content = 0x44 ∷ 0xAE ∷ 0x0C ∷ 0x78 ∷ 0x56 ∷ 0x34 ∷ 0x12 ∷ 0x01 ∷ 0x07 ∷ 0x78 ∷ []

abbrev entries : List (List ℕ)
entries = replicate 8 0 ∷ name_of content ∷ replicate 14 (replicate 8 0)

-- 0, 1, 2 and 17 entries in use
pub counts_worked :
    map (λ n. verdict_of entries n content) (0 ∷ 1 ∷ 2 ∷ 17 ∷ [])
    ≡ Ok false ∷ Ok false ∷ Ok true ∷ Err OutOfRange ∷ []
unfolding same_bytes listed
counts_worked = refl

-- nine bytes are enough, eight are not
pub lengths_worked :
    map (λ n. verdict_of entries 2 (take n content)) (9 ∷ 8 ∷ []) ≡ Ok true ∷ Err BadContent ∷ []
unfolding same_bytes listed
lengths_worked = refl
