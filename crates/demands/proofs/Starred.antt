-- Document 01, "On both sides of the edge": every starred case, one table under a single statement. A row is what the
-- definitions give; the table beside it is what the document says. Numbers that begin with 0x are hexadecimal.
use mathlib.Core.List.{List, [], ◌∷◌}
use mathlib.Core.Path.{◌≡◌, refl}
use Prim.Native.Nat.{ℕ}
use Rattle.std.specs.Prelude.{Result, Ok, Err, Option, Some, None}
use Rattle.answers.specs.declared.Refusal.{Refusal}
use Rattle.line.specs.declared.codes.Code.TheVariants.{ThreeOfSix, Manchester}
use Rattle.line.specs.Codes.{code_of}
use Rattle.line.specs.Encoding.{encoding}
use Rattle.chips.specs.Chips.{gather}
use Rattle.chips.specs.Packing.{packed, tabulate}
use Rattle.crc.specs.Check.{bit_in, bits_in, byte_in, reg_of, check_of}
use Rattle.crc.specs.CheckUpdate.{share_of, updating}
use Rattle.frame.specs.declared.Format.{Format}
use Rattle.frame.specs.Formats.{form_of, frame_size}
use Rattle.blocks.specs.Spans.{cut, size_of}
use Rattle.header.specs.AccessBits.{access_of, access_row}
use Rattle.address.specs.Makers.{maker_of}

-- L and the size of a frame whose content has n bytes
abbrev sizes : Format → ℕ → List ℕ
sizes f n = (form_of f).length_byte n ∷ frame_size f n ∷ []

-- what an answer returns, nothing where it is no acceptance
abbrev check_row : Result ℕ Refusal → List ℕ
check_row (Ok c) = c ∷ []
check_row (Err r) = []

abbrev letter_row : Option (ℕ × ℕ × ℕ) → List ℕ
letter_row (Some (a, b, c)) = a ∷ b ∷ c ∷ []
letter_row None = []

pub got : List (List ℕ)
got =
    (check_of (0x00 ∷ []) ∷ check_of (0x01 ∷ []) ∷ check_of (0x02 ∷ []) ∷ [])
    ∷ check_row (updating 0xFFFF 0x00 0x01 0)
    ∷ encoding (code_of ThreeOfSix) (0x44 ∷ [])
    ∷ encoding (code_of Manchester) (0x44 ∷ [])
    ∷ sizes Format.A 10
    ∷ sizes Format.A 25
    ∷ sizes Format.A 255
    ∷ sizes Format.B 125
    ∷ sizes Format.B 126
    ∷ (access_row (access_of 0x84) ∷ access_row (access_of 0x80) ∷ access_row (access_of 0x04) ∷ [])
    ∷ letter_row (maker_of 0x0443).spelled
    ∷ []

pub want : List (List ℕ)
want =
    (0xFFFF ∷ 0xC29A ∷ 0x8535 ∷ [])  -- checks of the bytes 00, 01, 02
    ∷ (0xC29A ∷ [])  -- update of FFFFh, 00 to 01, distance 0
    ∷ (0b01110001 ∷ 0b11000000 ∷ [])  -- three-of-six of 44h: 011100 011100, unused chips 0
    ∷ (0x9A ∷ 0x9A ∷ [])  -- Manchester of 44h
    ∷ (10 ∷ 15 ∷ [])  -- format A: L and size of n = 10
    ∷ (25 ∷ 30 ∷ [])  -- n = 25
    ∷ (255 ∷ 290 ∷ [])  -- n = 255
    ∷ (127 ∷ 128 ∷ [])  -- format B: n = 125
    ∷ (130 ∷ 131 ∷ [])  -- n = 126
    ∷ (3 ∷ 2 ∷ 1 ∷ [])  -- access: unlimited, limited, none for now
    ∷ (65 ∷ 66 ∷ 67 ∷ [])  -- 0443h is ABC
    ∷ []

pub starred : got ≡ want
unfolding got want bit_in bits_in byte_in reg_of check_of share_of encoding packed tabulate gather frame_size cut
    size_of
starred = refl
