-- Worked examples, computed. Document 01's starred checks and its starred update stand in demands/proofs/Starred.
--     check_of_worked     the check vector of the text "123456789"; the three blocks of EN 13757-4:2019, C.2 and C.3
--     updating_worked    a byte of C.2's second block changed, 43 to 44 with two bytes behind it; the farthest byte,
--                        and one byte farther
use mathlib.Core.List.{List, [], ◌∷◌, ◌++◌, map}
use mathlib.Core.Path.{◌≡◌, refl}
use Prim.Native.Nat.{ℕ}
use Rattle.std.specs.Prelude.{Ok, Err}
use Rattle.answers.specs.declared.Refusal.{Refusal}
use Rattle.crc.specs.Check.{bit_in, bits_in, byte_in, reg_of, check_of}
use Rattle.crc.specs.CheckUpdate.{share_of, updating}

abbrev text : List ℕ
text = 0x31 ∷ 0x32 ∷ 0x33 ∷ 0x34 ∷ 0x35 ∷ 0x36 ∷ 0x37 ∷ 0x38 ∷ 0x39 ∷ []

abbrev name : List ℕ
name = 0x44 ∷ 0xAE ∷ 0x0C ∷ 0x78 ∷ 0x56 ∷ 0x34 ∷ 0x12 ∷ 0x01 ∷ 0x07 ∷ []

abbrev volume : ℕ → List ℕ
volume x = 0x78 ∷ 0x0B ∷ 0x13 ∷ x ∷ 0x65 ∷ 0x87 ∷ []

pub check_of_worked :
    map check_of
    (text ∷ (0x0F ∷ name) ∷ volume 0x43 ∷ (0x14 ∷ name ++ (0x8C ∷ 0x20 ∷ 0x27 ∷ volume 0x43)) ∷ volume 0x44 ∷ [])
    ≡ 0xC2B7 ∷ 0x4447 ∷ 0x1E6D ∷ 0x7AC5 ∷ 0xDCF1 ∷ []
unfolding bit_in bits_in byte_in reg_of check_of
check_of_worked = refl

pub updating_worked :
    updating 0x1E6D 0x43 0x44 2 ∷ map (updating 0xFFFF 0x00 0x01) (125 ∷ 126 ∷ [])
    ≡ Ok 0xDCF1 ∷ Ok 0x12D6 ∷ Err Refusal.OutOfRange ∷ []
unfolding bit_in bits_in byte_in reg_of share_of
updating_worked = refl
