-- Worked examples, computed: letters on both sides of the edge, hard and soft; M and A of EN 13757-4:2019, Annex C.2.
-- Document 01's starred 0443h stands in demands/proofs/Starred.
use mathlib.Core.List.{List, [], ◌∷◌, map}
use mathlib.Core.Path.{◌≡◌, refl}
use Prim.Native.Nat.{ℕ, ◌+◌}
use lib.ListN.{replicate}
use Rattle.address.specs.Makers.{maker_of}
use Rattle.address.specs.Names.{name_at, name_of, name_bytes}
use Rattle.address.specs.declared.Maker.{Maker}
use Rattle.std.specs.Prelude.{Option, Some, None}
use Rattle.address.specs.declared.Reach.{Reach}
use Rattle.address.specs.declared.Reach.TheVariants.{Hard, Soft}

-- each M of the list as it is, hard, then with its top bit set, soft (12.5.5). 0443h is ABC; 0CAEh is the CEN of Annex
-- C.1, whose address is fixed ("figée dans le code"); 0421h is AAA and 6B5Ah ZZZ. Then there are none: 0 or 27 as the
-- first part, the second, the third, and 0 or 31 as all three.
abbrev numbers : List ℕ
numbers =
    0x0443 ∷ 0x0CAE ∷ 0x0421 ∷ 0x6B5A
    ∷ 0x0043 ∷ 0x6C21 ∷ 0x0403 ∷ 0x0761 ∷ 0x0440 ∷ 0x6B5B ∷ 0x0000 ∷ 0x7FFF ∷ []

abbrev spellings : List (Option (ℕ × ℕ × ℕ))
spellings = Some (65, 66, 67) ∷ Some (67, 69, 78) ∷ Some (65, 65, 65) ∷ Some (90, 90, 90) ∷ replicate 8 None

abbrev makers : Reach → List Maker
makers r = map (λ (l : Option (ℕ × ℕ × ℕ)). record { spelled = l; reach = r }) spellings

pub maker_of_worked : map maker_of numbers ≡ makers Hard
maker_of_worked = refl

pub maker_of_soft_worked : map (λ (m : ℕ). maker_of (m + 0x8000)) numbers ≡ makers Soft
maker_of_soft_worked = refl

-- the content of Annex C.2: C, then M and A, then CI
abbrev content : List ℕ
content = 0x44 ∷ 0xAE ∷ 0x0C ∷ 0x78 ∷ 0x56 ∷ 0x34 ∷ 0x12 ∷ 0x01 ∷ 0x07 ∷ 0x78 ∷ []

pub name_at_worked : name_at content 1 ≡ record { m = 0x0CAE; a = (0x78, 0x56, 0x34, 0x12, 0x01, 0x07) }
name_at_worked = refl

pub name_of_worked : name_of content ≡ name_bytes (name_at content 1)
name_of_worked = refl
