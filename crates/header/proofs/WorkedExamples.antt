-- Worked examples, computed: a header of each kind as bytes, read and written (EN 13757-4:2019, 13.2.2 to 13.2.5,
-- Tables 44 to 47), that of Annex C.3 among them. The starred cases of access stand in demands/proofs/Starred.
--     access_of_worked       the CC of Annex C.3 announces no access, whatever its other bits are
--     header_length_worked   lengths with CI
--     annex_worked, ..      8Ch, 8Dh, 8Eh, 8Fh: length and fields as they are read
--     written_worked        the same four written into lent memory that is one byte longer
--     refusals_worked       bodies that are no header
use mathlib.Core.List.{List, [], ◌∷◌, ◌++◌, map}
use mathlib.Core.Path.{◌≡◌, refl}
use Prim.Native.Nat.{ℕ}
use lib.ListN.{take, replicate}
use Rattle.header.specs.Layout.{header_length}
use Rattle.answers.specs.declared.Refusal.TheVariants.{UnknownCi, ShortBody}
use Rattle.header.specs.HeaderReads.{fields_of, header_reading_of}
use Rattle.header.specs.HeaderWrites.{header_writing_of}
use Rattle.header.specs.AccessBits.{access_of}
use Rattle.header.specs.declared.layout.Header.{Header}
use Rattle.header.specs.declared.layout.HeaderKind.{HeaderKind}
use Rattle.header.specs.declared.layout.HeaderKind.TheVariants.{Plain, Secured, Addressed, AddressedSecured}
use Rattle.std.specs.Prelude.{Result, Ok, Err}
use Rattle.answers.specs.declared.Refusal.{Refusal}
use Rattle.header.specs.declared.access.Access.TheVariants.{NoAccess}

pub access_of_worked : map access_of (0x20 ∷ 0x7B ∷ []) ≡ NoAccess ∷ NoAccess ∷ []
access_of_worked = refl

pub header_length_worked : map header_length (Plain ∷ Secured ∷ Addressed ∷ AddressedSecured ∷ [])
    ≡ 3 ∷ 9 ∷ 11 ∷ 17 ∷ []
header_length_worked = refl

-- Annex C.3: CI 8Ch, CC 20h, ACC 27h, and what follows them
abbrev annex : List ℕ
annex = 0x8C ∷ 0x20 ∷ 0x27 ∷ 0x78 ∷ 0x0B ∷ 0x13 ∷ 0x43 ∷ 0x65 ∷ 0x87 ∷ []

-- the length and the fields of a header that was read
abbrev fields_read : Result (Header × ℕ) Refusal → List ℕ
fields_read (Ok (h, n)) = n ∷ fields_of h
fields_read (Err r) = []

pub annex_worked :
    fields_read (header_reading_of annex) ≡ 3 ∷ 0x8C ∷ 0x20 ∷ 0x27 ∷ 0 ∷ 0 ∷ 0 ∷ 0 ∷ 0 ∷ 0 ∷ 0 ∷ 0 ∷ 0 ∷ 0 ∷ []
annex_worked = refl

-- Table 45: CC, ACC, SN in four bytes, PayloadCRC in two. SN has its least significant byte first (12.2), PayloadCRC is
-- shown as it stands
abbrev secured : List ℕ
secured = 0x8D ∷ 0x84 ∷ 0x01 ∷ 0x78 ∷ 0x56 ∷ 0x34 ∷ 0x12 ∷ 0xC2 ∷ 0xB7 ∷ []

pub secured_worked :
    fields_read (header_reading_of secured)
    ≡ 9 ∷ 0x8D ∷ 0x84 ∷ 0x01 ∷ 0 ∷ 0 ∷ 0 ∷ 0 ∷ 0 ∷ 0 ∷ 0 ∷ 0x12345678 ∷ 0xC2 ∷ 0xB7 ∷ []
secured_worked = refl

-- Table 46: CC, ACC, M2 in two bytes, A2 in six; here they name the meter of Annex C
abbrev addressed : List ℕ
addressed = 0x8E ∷ 0x20 ∷ 0x27 ∷ 0xAE ∷ 0x0C ∷ 0x78 ∷ 0x56 ∷ 0x34 ∷ 0x12 ∷ 0x01 ∷ 0x07 ∷ []

pub addressed_worked :
    fields_read (header_reading_of addressed)
    ≡ 11 ∷ 0x8E ∷ 0x20 ∷ 0x27 ∷ 0x0CAE ∷ 0x78 ∷ 0x56 ∷ 0x34 ∷ 0x12 ∷ 0x01 ∷ 0x07 ∷ 0 ∷ 0 ∷ 0 ∷ []
addressed_worked = refl

-- Table 47: M2 and A2 come before SN and PayloadCRC
abbrev long : List ℕ
long = 0x8F ∷ 0x84 ∷ 1 ∷ 0x43 ∷ 0x04 ∷ 2 ∷ 3 ∷ 4 ∷ 5 ∷ 6 ∷ 7 ∷ 0x78 ∷ 0x56 ∷ 0x34 ∷ 0x12 ∷ 8 ∷ 9 ∷ []

pub long_worked :
    fields_read (header_reading_of long)
    ≡ 17 ∷ 0x8F ∷ 0x84 ∷ 1 ∷ 0x0443 ∷ 2 ∷ 3 ∷ 4 ∷ 5 ∷ 6 ∷ 7 ∷ 0x12345678 ∷ 8 ∷ 9 ∷ []
long_worked = refl

-- every field differs from every other, so that none can stand in the place of another
abbrev filled : HeaderKind → Header
filled k =
    record {
      kind = k;
      cc = 0x84;
      acc = 1;
      receiver = record { m = 0x0443; a = (2, 3, 4, 5, 6, 7) };
      session = record { sn = 0x12345678; check = (8, 9) };
    }

-- what writing leaves of eighteen lent bytes that held FFh
abbrev written : HeaderKind → List ℕ
written k = (header_writing_of (filled k) (replicate 18 0xFF)).memory

pub written_worked :
    map written (Plain ∷ Secured ∷ Addressed ∷ AddressedSecured ∷ [])
    ≡ (0x8C ∷ 0x84 ∷ 1 ∷ replicate 15 0xFF)
    ∷ (0x8D ∷ 0x84 ∷ 1 ∷ 0x78 ∷ 0x56 ∷ 0x34 ∷ 0x12 ∷ 8 ∷ 9 ∷ replicate 9 0xFF)
    ∷ (0x8E ∷ 0x84 ∷ 1 ∷ 0x43 ∷ 0x04 ∷ 2 ∷ 3 ∷ 4 ∷ 5 ∷ 6 ∷ 7 ∷ replicate 7 0xFF)
    ∷ (long ++ (0xFF ∷ []))
    ∷ []
written_worked = refl

-- empty; a CI byte beside the four, though the body is short too; one byte missing
pub refusals_worked :
    map header_reading_of
    ([] ∷ (0x8B ∷ []) ∷ (0x90 ∷ []) ∷ (0x86 ∷ 0x20 ∷ 0x27 ∷ []) ∷ (0x8C ∷ 0x20 ∷ []) ∷ take 16 long ∷ [])
    ≡ map Err (ShortBody ∷ UnknownCi ∷ UnknownCi ∷ UnknownCi ∷ ShortBody ∷ ShortBody ∷ [])
refusals_worked = refl
