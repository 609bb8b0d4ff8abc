-- Worked examples, computed from the definitions. Document 01's starred 44h stands in demands/proofs/Starred.
--     three_of_six_C2     bytes of EN 13757-4:2019, C.2.3: AE 0C are 100110 110010 010110 110100
--     manchester_C1       bytes of C.1: the chips that it prints for 78 0B 13 43
--     nrz_C3              a byte of C.3.3: 14h is 0001 0100
--     three_of_six_15     15 bytes in three-of-six are 180 chips in 23 bytes, and the last four chips are 0
--     never_words         7, 21, 42 and 56 have three ones and are no code words; nor are Manchester's 00 and 11
--     nrz_every           every word of eight chips is a code word of NRZ
use mathlib.Core.Path.{◌≡◌, refl, ◌∙◌}
use mathlib.Core.List.{List, [], ◌∷◌, map}
use Prim.Native.Nat.{ℕ, ◌<◌, ◌≤◌}
use lib.ListN.{length}
use Rattle.std.specs.Prelude.{Some, None}
use Rattle.chips.proofs.PackingLaws.{up_to_behind}
use Rattle.chips.specs.Chips.{gather, chip_at}
use Rattle.chips.specs.Packing.{tabulate, packed}
use Rattle.line.proofs.CodeLaws.{lawful}
use Rattle.line.proofs.TripLaws.{length-encoding, chip_at-encoding}
use Rattle.line.specs.Codes.{LineCode, code_of, number_for, word_value, chips_in}
use Rattle.line.specs.Encoding.{encoded_chip, encoding}
use Rattle.line.specs.declared.codes.Code.TheVariants.{Nrz, ThreeOfSix, Manchester}

pub three_of_six_C2 : encoding (code_of ThreeOfSix) (0xAE ∷ 0x0C ∷ []) ≡ 0b10011011 ∷ 0b00100101 ∷ 0b10110100 ∷ []
unfolding gather tabulate packed encoding
three_of_six_C2 = refl

pub manchester_C1 :
    encoding (code_of Manchester) (0x78 ∷ 0x0B ∷ 0x13 ∷ 0x43 ∷ [])
    ≡ 0b10010101 ∷ 0b01101010 ∷ 0b10101010 ∷ 0b01100101 ∷ 0b10101001 ∷ 0b10100101 ∷ 0b10011010 ∷ 0b10100101 ∷ []
unfolding gather tabulate packed encoding
manchester_C1 = refl

pub nrz_C3 : encoding (code_of Nrz) (0x14 ∷ []) ≡ 0b00010100 ∷ []
unfolding gather tabulate packed encoding
nrz_C3 = refl

pub three_of_six_15 : (b : List ℕ) → length b ≡ 15
    → (chips_in (code_of ThreeOfSix) 15 ≡ 180) × ((length (encoding (code_of ThreeOfSix) b) ≡ 23)
    × ((k : ℕ) → 180 ≤ k → chip_at (encoding (code_of ThreeOfSix) b) k ≡ 0))
three_of_six_15 b e =
    let κ : LineCode = code_of ThreeOfSix in
    let chips : chips_in (code_of ThreeOfSix) (length b) ≡ 180 = rw e in (
      refl,
      (
        length-encoding κ b ∙ rw e,
        λ k h. chip_at-encoding κ b k ∙ up_to_behind (chips_in κ (length b)) (encoded_chip κ b) k (rw chips h),
      ),
    )

pub never_words : (map (word_value (code_of ThreeOfSix)) (7 ∷ 21 ∷ 42 ∷ 56 ∷ [])
    ≡ None ∷ None ∷ None ∷ None ∷ [])
    × (map (word_value (code_of Manchester)) (0b00 ∷ 0b11 ∷ []) ≡ None ∷ None ∷ [])
unfolding number_for
never_words = (refl, refl)

pub nrz_every : (y : ℕ) → y < 256 → word_value (code_of Nrz) y ≡ Some y
nrz_every y h = (lawful Nrz).back y h
