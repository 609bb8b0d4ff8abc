-- Worked examples, computed: which number stands for which kind, and the places of a row, in the order of
-- include/kusikhut.h (document 01, "Answer numbers": what a refusal returns besides; all other places are zero).
--     kinds_worked         T with A, C with A, C with B, Manchester with A are 0 to 3
--     receptions_worked    kind, place, tried, size, n, wrong block, bad word: one accepted, each refusal with a value
--     rows_worked          the rows of the other calls
--     header_worked        a header's row, and the header that is written from what a caller hands over
--     received_C2          the frame of EN 13757-4:2019, C.2, four chips into a buffer, as its caller is told of it:
--                          started at chip 2 with nine positions allowed, and with one position less than it takes
use mathlib.Core.List.{List, [], ◌∷◌, ◌++◌, map}
use mathlib.Core.Path.{◌≡◌, refl}
use Prim.Native.Nat.{ℕ}
use lib.ListN.{replicate}
use Rattle.std.specs.Prelude.{Ok, Err, Some, None, true, false}
use Rattle.answers.specs.declared.Refusal.{Refusal}
use Rattle.chips.specs.Chips.{gather}
use Rattle.chips.specs.Packing.{tabulate, packed}
use Rattle.line.specs.Codes.{number_for}
use Rattle.line.specs.Decoding.{good_run, decoding}
use Rattle.crc.specs.Check.{bit_in, bits_in, byte_in, reg_of, check_of}
use Rattle.sync.specs.declared.Kind.{Kind}
use Rattle.sync.specs.SyncSearch.{passed, found, search_for}
use Rattle.sync.specs.Tails.{tail_of}
use Rattle.blocks.specs.Spans.{payload, block_ok, first_wrong, size_of, cut}
use Rattle.frame.specs.Formats.{frame_size, sizes}
use Rattle.frame.specs.Frames.{content_in}
use Rattle.frame.specs.Judging.{by_checks, by_length, judge_of}
use Rattle.frame.specs.Reads.{taken_out, reading_of}
use Rattle.frame.proofs.WorkedExamples.{content_C2}
use Rattle.radio.specs.Receiving.{reception, after_words, by_size, frame_after, by_tail, by_sync, reception_of}
use Rattle.address.specs.Makers.{maker_of}
use Rattle.header.specs.declared.layout.HeaderKind.{HeaderKind}
use Rattle.header.specs.HeaderReads.{header_reading_of}
use Rattle.channels.specs.Listing.{channel_line}
use Rattle.kusikhut.specs.Told.{told, shown, kind_number, told_frame, told_sync, told_maker, told_verdict, told_line, told_header, told_reception}
use Rattle.kusikhut.specs.Calls.{header_of, call_header, call_receive}

pub kinds_worked :
    map kind_number (Kind.TWithA ∷ Kind.CWithA ∷ Kind.CWithB ∷ Kind.ManchesterWithA ∷ []) ≡ 0 ∷ 1 ∷ 2 ∷ 3 ∷ []
kinds_worked = refl

pub receptions_worked :
    map told_reception
    (Ok (reception Kind.CWithB 32 33 21 18)
    ∷ map Err
    (Refusal.WrongCheck 2 ∷ Refusal.BadWord 5 ∷ Refusal.NoSync 25 ∷ Refusal.UnknownTail 32 ∷ Refusal.UsedUp 4 ∷ []))
    ≡ told 0 (2 ∷ 32 ∷ 33 ∷ 21 ∷ 18 ∷ 0 ∷ 0 ∷ [])
    ∷ told 3 (0 ∷ 0 ∷ 0 ∷ 0 ∷ 0 ∷ 2 ∷ 0 ∷ [])
    ∷ told 6 (0 ∷ 0 ∷ 0 ∷ 0 ∷ 0 ∷ 0 ∷ 5 ∷ [])
    ∷ told 7 (0 ∷ 0 ∷ 25 ∷ 0 ∷ 0 ∷ 0 ∷ 0 ∷ [])
    ∷ told 8 (0 ∷ 32 ∷ 0 ∷ 0 ∷ 0 ∷ 0 ∷ 0 ∷ [])
    ∷ told 14 (0 ∷ 0 ∷ 4 ∷ 0 ∷ 0 ∷ 0 ∷ 0 ∷ [])
    ∷ []
receptions_worked = refl

pub rows_worked :
    told_frame (Ok (sizes 20 15)) ∷ told_frame (Err (Refusal.WrongCheck 2))
    ∷ told_sync (Ok (found 4 5)) ∷ told_sync (Err (Refusal.NoSync 25))
    ∷ told_maker (maker_of 0x0CAE) ∷ told_maker (maker_of 0x8CAE) ∷ told_maker (maker_of 0)
    ∷ told_maker (maker_of 0xFFFF)
    ∷ told_verdict (Ok true) ∷ told_verdict (Ok false)
    ∷ told_line (Some (channel_line 6 0 169481250)) ∷ told_line None
    ∷ []
    ≡ told 0 (20 ∷ 15 ∷ 0 ∷ []) ∷ told 3 (0 ∷ 0 ∷ 2 ∷ [])
    ∷ told 0 (4 ∷ 5 ∷ []) ∷ told 7 (0 ∷ 25 ∷ [])
    ∷ told 0 (1 ∷ 67 ∷ 69 ∷ 78 ∷ 0 ∷ []) ∷ told 0 (1 ∷ 67 ∷ 69 ∷ 78 ∷ 1 ∷ [])
    ∷ told 0 (replicate 5 0) ∷ told 0 (0 ∷ 0 ∷ 0 ∷ 0 ∷ 1 ∷ [])
    ∷ told 0 (1 ∷ []) ∷ told 0 (0 ∷ [])
    ∷ told 0 (6 ∷ 0 ∷ 169481250 ∷ []) ∷ told 13 (0 ∷ 0 ∷ 0 ∷ [])
    ∷ []
rows_worked = refl

-- CI CC ACC M2 A2 SN PayloadCRC (EN 13757-4:2019, Table 47)
abbrev bytes : List ℕ
bytes = 0x8F ∷ 0x84 ∷ 1 ∷ 0x43 ∷ 0x04 ∷ 2 ∷ 3 ∷ 4 ∷ 5 ∷ 6 ∷ 7 ∷ 0x78 ∷ 0x56 ∷ 0x34 ∷ 0x12 ∷ 8 ∷ 9 ∷ []

pub header_worked :
    (told_header (header_reading_of bytes)
    ≡ told 0 (17 ∷ 0x8F ∷ 0x84 ∷ 1 ∷ 0x0443 ∷ 2 ∷ 3 ∷ 4 ∷ 5 ∷ 6 ∷ 7 ∷ 0x12345678 ∷ 8 ∷ 9 ∷ []))
    × (call_header
    (header_of HeaderKind.AddressedSecured 0x84 1 0x0443 0x12345678 (2 ∷ 3 ∷ 4 ∷ 5 ∷ 6 ∷ 7 ∷ []) (8 ∷ 9 ∷ []))
    (replicate 18 0xFF)
    ≡ shown 0 (17 ∷ []) (bytes ++ (0xFF ∷ [])))
header_worked = (refl, refl)

-- 0000, then 543Dh and the chips of C.2.3, then 0000
abbrev air : List ℕ
air =
    0x05 ∷ 0x43 ∷ 0xD5 ∷ 0xA9 ∷ 0x71 ∷ 0xC9 ∷ 0xB2 ∷ 0x5B ∷ 0x44 ∷ 0xEC ∷ 0x65 ∷ 0xA2 ∷ 0xDC ∷ 0x34 ∷ 0xE5 ∷ 0x8D ∷ 0x59
    ∷ 0x37 ∷ 0x1C ∷ 0x71 ∷ 0x34 ∷ 0xEC ∷ 0x5A ∷ 0x33 ∷ 0x4B ∷ 0x70 ∷ 0xB6 ∷ 0x99 ∷ 0xB1 ∷ 0x33 ∷ 0x72 ∷ 0x6B ∷ 0x10 ∷ []

pub received_C2 :
    call_receive air 2 9 (replicate 16 0xFF) ∷ call_receive air 2 2 (replicate 16 0xFF) ∷ []
    ≡ shown 0 (0 ∷ 4 ∷ 3 ∷ 20 ∷ 15 ∷ 0 ∷ 0 ∷ []) (content_C2 ++ (0xFF ∷ []))
    ∷ shown 14 (0 ∷ 0 ∷ 2 ∷ 0 ∷ 0 ∷ 0 ∷ 0 ∷ []) (replicate 16 0xFF)
    ∷ []
unfolding reception_of by_sync by_tail frame_after by_size after_words search_for passed tail_of
    number_for good_run decoding packed tabulate gather
    reading_of taken_out content_in judge_of by_length by_checks first_wrong block_ok payload size_of frame_size cut
    check_of reg_of byte_in bits_in bit_in
received_C2 = refl
