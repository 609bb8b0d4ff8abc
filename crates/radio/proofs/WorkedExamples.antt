-- Worked examples, computed: the whole frames of EN 13757-4:2019, Annex C, sent in each of the four kinds. That the
-- frames have these bytes is frame/proofs/WorkedExamples; here each byte becomes chips behind the sync word.
--     sent_T_A, sent_C_B     the chips that C.2 and C.3 print, behind 543Dh (7.4.2.3) and 543Dh 543Dh (9.4.2)
--     sent_C_A               the frame of C.2 in mode C, behind 543Dh 54CDh (9.4.2); Annex C has none of this kind
--     sent_Manchester_A      the frame of C.1, which is that of C.2. Our copy of C.1 has the chips of 78 0B 13 43 65 87
--                            and the first twelve of 1E; the others are lost with a page, and follow from 6.4.1
-- No preamble and no postamble: the radio chip adds them (D4).
use Rattle.std.specs.Prelude.{Result, Ok}
use Rattle.answers.specs.declared.Refusal.{Refusal}
use mathlib.Core.List.{List, [], ◌∷◌, ◌++◌}
use mathlib.Core.Path.{◌≡◌, ap}
use Prim.Native.Nat.{ℕ}
use lib.ListN.{replicate}
use Rattle.answers.specs.Outcome.{leaving, Outcome}
use Rattle.chips.specs.Chips.{gather}
use Rattle.chips.specs.Packing.{tabulate, packed}
use Rattle.frame.proofs.WorkedExamples.{content_C2, frame_C2, content_C3, frame_C3}
use Rattle.line.specs.Encoding.{encoding}
use Rattle.radio.specs.Sending.{air_of, putting, sending_of}
use Rattle.sync.specs.declared.Kind.TheVariants.{TWithA, CWithA, CWithB, ManchesterWithA}

abbrev chips_T_A : List ℕ
chips_T_A =
    0x54 ∷ 0x3D
    ∷ 0x5A ∷ 0x97 ∷ 0x1C ∷ 0x9B ∷ 0x25 ∷ 0xB4 ∷ 0x4E ∷ 0xC6 ∷ 0x5A ∷ 0x2D ∷ 0xC3 ∷ 0x4E ∷ 0x58 ∷ 0xD5 ∷ 0x93
    ∷ 0x71 ∷ 0xC7 ∷ 0x13 ∷ 0x4E ∷ 0xC5 ∷ 0xA3 ∷ 0x34 ∷ 0xB7 ∷ 0x0B ∷ 0x69 ∷ 0x9B ∷ 0x13 ∷ 0x37 ∷ 0x26 ∷ 0xB1 ∷ []

abbrev chips_C_A : List ℕ
chips_C_A =
    0x54 ∷ 0x3D ∷ 0x54 ∷ 0xCD
    ∷ 0x0F ∷ 0x44 ∷ 0xAE ∷ 0x0C ∷ 0x78 ∷ 0x56 ∷ 0x34 ∷ 0x12 ∷ 0x01 ∷ 0x07 ∷ 0x44 ∷ 0x47
    ∷ 0x78 ∷ 0x0B ∷ 0x13 ∷ 0x43 ∷ 0x65 ∷ 0x87 ∷ 0x1E ∷ 0x6D ∷ []

abbrev chips_C_B : List ℕ
chips_C_B =
    0x54 ∷ 0x3D ∷ 0x54 ∷ 0x3D
    ∷ 0x14 ∷ 0x44 ∷ 0xAE ∷ 0x0C ∷ 0x78 ∷ 0x56 ∷ 0x34 ∷ 0x12 ∷ 0x01 ∷ 0x07 ∷ 0x8C ∷ 0x20 ∷ 0x27
    ∷ 0x78 ∷ 0x0B ∷ 0x13 ∷ 0x43 ∷ 0x65 ∷ 0x87 ∷ 0x7A ∷ 0xC5 ∷ []

-- block 1 with its check; from 956Ah on, block 2, of which C.1 still has the chips up to A95h
abbrev chips_Manchester_A : List ℕ
chips_Manchester_A =
    0xAA ∷ 0x55 ∷ 0x9A ∷ 0x9A ∷ 0x66 ∷ 0x56 ∷ 0xAA ∷ 0x5A ∷ 0x95 ∷ 0x6A ∷ 0x99 ∷ 0x96 ∷ 0xA5 ∷ 0x9A ∷ 0xA9 ∷ 0xA6
    ∷ 0xAA ∷ 0xA9 ∷ 0xAA ∷ 0x95 ∷ 0x9A ∷ 0x9A ∷ 0x9A ∷ 0x95
    ∷ 0x95 ∷ 0x6A ∷ 0xAA ∷ 0x65 ∷ 0xA9 ∷ 0xA5 ∷ 0x9A ∷ 0xA5 ∷ 0x96 ∷ 0x99 ∷ 0x6A ∷ 0x95 ∷ 0xA9 ∷ 0x56 ∷ 0x96 ∷ 0x59 ∷ []

-- what sending leaves of lent memory that is one byte longer and held FFh everywhere
abbrev sent : ℕ → List ℕ → Outcome (Result ℕ Refusal)
sent n chips = leaving (Ok n) (chips ++ (0xFF ∷ []))

pub sent_T_A : sending_of TWithA content_C2 (replicate 33 0xFF) ≡ sent 32 chips_T_A
unfolding sending_of putting air_of encoding packed tabulate gather
sent_T_A = ap (λ p. putting TWithA p (replicate 33 0xFF)) frame_C2

pub sent_C_A : sending_of CWithA content_C2 (replicate 25 0xFF) ≡ sent 24 chips_C_A
unfolding sending_of putting air_of encoding packed tabulate gather
sent_C_A = ap (λ p. putting CWithA p (replicate 25 0xFF)) frame_C2

pub sent_C_B : sending_of CWithB content_C3 (replicate 26 0xFF) ≡ sent 25 chips_C_B
unfolding sending_of putting air_of encoding packed tabulate gather
sent_C_B = ap (λ p. putting CWithB p (replicate 26 0xFF)) frame_C3

pub sent_Manchester_A : sending_of ManchesterWithA content_C2 (replicate 41 0xFF) ≡ sent 40 chips_Manchester_A
unfolding sending_of putting air_of encoding packed tabulate gather
sent_Manchester_A = ap (λ p. putting ManchesterWithA p (replicate 41 0xFF)) frame_C2
