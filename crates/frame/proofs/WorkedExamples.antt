-- Worked examples, computed: the cases of document 01, "On both sides of the edge", that are not starred (the starred
-- ones stand in demands/proofs/Starred), and the whole frames that EN 13757-4:2019, Annex C prints.
--     sizes_worked           A: n = 26, 41, 42, where a block begins or is full; B: n = 10, 251, shortest and longest
--     lengths_A, lengths_B   length bytes on both sides of each edge
--     frame_C2, frame_C3     C.2 in format A, C.3 in format B
use mathlib.Core.List.{List, [], ◌∷◌, map}
use mathlib.Core.Path.{◌≡◌, refl}
use Prim.Native.Nat.{ℕ}
use Rattle.std.specs.Prelude.{Result, Ok, Err}
use Rattle.answers.specs.declared.Refusal.{Refusal}
use Rattle.crc.specs.Check.{bit_in, bits_in, byte_in, reg_of, check_of}
use Rattle.blocks.specs.Spans.{sealed, framed, size_of, cut}
use Rattle.frame.specs.declared.Format.{Format}
use Rattle.frame.specs.declared.Format.TheVariants.{A, B}
use Rattle.frame.specs.declared.Frame.{Frame}
use Rattle.frame.specs.Formats.{form_of, frame_size, size_for}
use Rattle.frame.specs.Frames.{frame_of}

-- L and the size of a frame whose content has n bytes
abbrev sizes : Format → ℕ → List ℕ
sizes f n = (form_of f).length_byte n ∷ frame_size f n ∷ []

pub sizes_worked :
    sizes A 26 ∷ sizes A 41 ∷ sizes A 42 ∷ sizes B 10 ∷ sizes B 251 ∷ []
    ≡ (26 ∷ 33 ∷ []) ∷ (41 ∷ 48 ∷ []) ∷ (42 ∷ 51 ∷ []) ∷ (12 ∷ 13 ∷ []) ∷ (255 ∷ 256 ∷ []) ∷ []
unfolding frame_size size_of cut
sizes_worked = refl

-- the content length that an allowed length byte tells, nothing where it is not allowed
abbrev length_in : Result Frame Refusal → List ℕ
length_in (Ok a) = a.n ∷ []
length_in (Err r) = []

pub lengths_A :
    map (λ l. length_in (size_for A l)) (0 ∷ 9 ∷ 10 ∷ 255 ∷ 256 ∷ []) ≡ [] ∷ [] ∷ (10 ∷ []) ∷ (255 ∷ []) ∷ [] ∷ []
unfolding frame_size size_of cut
lengths_A = refl

pub lengths_B :
    map (λ l. length_in (size_for B l)) (11 ∷ 12 ∷ 127 ∷ 128 ∷ 129 ∷ 130 ∷ 255 ∷ 256 ∷ [])
    ≡ [] ∷ (10 ∷ []) ∷ (125 ∷ []) ∷ [] ∷ [] ∷ (126 ∷ []) ∷ (251 ∷ []) ∷ [] ∷ []
unfolding frame_size size_of cut
lengths_B = refl

-- C.1 and C.2: a meter "CEN" sends 876,543 litres; checks 4447h and 1E6Dh
abbrev pub content_C2 : List ℕ
content_C2 =
    0x44 ∷ 0xAE ∷ 0x0C ∷ 0x78 ∷ 0x56 ∷ 0x34 ∷ 0x12 ∷ 0x01 ∷ 0x07 ∷ 0x78 ∷ 0x0B ∷ 0x13 ∷ 0x43 ∷ 0x65 ∷ 0x87 ∷ []

abbrev pub bytes_C2 : List ℕ
bytes_C2 =
    0x0F ∷ 0x44 ∷ 0xAE ∷ 0x0C ∷ 0x78 ∷ 0x56 ∷ 0x34 ∷ 0x12 ∷ 0x01 ∷ 0x07 ∷ 0x44 ∷ 0x47
    ∷ 0x78 ∷ 0x0B ∷ 0x13 ∷ 0x43 ∷ 0x65 ∷ 0x87 ∷ 0x1E ∷ 0x6D ∷ []

pub frame_C2 : frame_of A content_C2 ≡ bytes_C2
unfolding frame_of framed sealed cut check_of reg_of byte_in bits_in bit_in
frame_C2 = refl

-- C.3: the same behind an extended header; check 7AC5h
abbrev pub content_C3 : List ℕ
content_C3 =
    0x44 ∷ 0xAE ∷ 0x0C ∷ 0x78 ∷ 0x56 ∷ 0x34 ∷ 0x12 ∷ 0x01 ∷ 0x07 ∷ 0x8C ∷ 0x20 ∷ 0x27
    ∷ 0x78 ∷ 0x0B ∷ 0x13 ∷ 0x43 ∷ 0x65 ∷ 0x87 ∷ []

abbrev pub bytes_C3 : List ℕ
bytes_C3 =
    0x14 ∷ 0x44 ∷ 0xAE ∷ 0x0C ∷ 0x78 ∷ 0x56 ∷ 0x34 ∷ 0x12 ∷ 0x01 ∷ 0x07 ∷ 0x8C ∷ 0x20 ∷ 0x27
    ∷ 0x78 ∷ 0x0B ∷ 0x13 ∷ 0x43 ∷ 0x65 ∷ 0x87 ∷ 0x7A ∷ 0xC5 ∷ []

pub frame_C3 : frame_of B content_C3 ≡ bytes_C3
unfolding frame_of framed sealed cut check_of reg_of byte_in bits_in bit_in
frame_C3 = refl
