-- Why nothing is claimed across lengths: a frame whose content is a short frame and its correction bytes, but for the
-- length byte, which comes with one wrong bit. What was received is the short frame with its check bytes as it stands.
-- Both words are taken, the one that was sent with 1 differing byte and the other with 0, and reading accepts both.
--     long                 the word that was sent, in format B: a frame of 77 bytes and its check bytes
--     heard                what was received
--     short                the other proposal, as it was received: a frame of 13 bytes, and 32 bytes of the long one
--     all_are_bytes        these are bytes
--     long_is, short_is    what becomes of the proposals, and of their frames
-- Assumes nothing.
use mathlib.Core.List.{List, [], ◌∷◌, ◌++◌}
use mathlib.Core.Path.{◌≡◌, refl, sym}
use Prim.Native.Nat.{ℕ}
use native.Mathlib.Omega.{arith}
use lib.ListN.{take, drop}
use Rattle.std.specs.Prelude.{Ok}
use Rattle.ground.specs.Apart.{apart}
use Rattle.ground.specs.Bytes.{Bytes}
use Rattle.ground.specs.Sums.{xors}
use Rattle.ground.proofs.TableLaws.{all_bytes}
use Rattle.crc.specs.Check.{bit_in, bits_in, byte_in, reg_of, check_of}
use Rattle.blocks.specs.Spans.{size_of, cut, block_ok, first_wrong}
use Rattle.field.specs.Field.{up, times_bits, mul}
use Rattle.field.specs.Polynomials.{scaled}
use Rattle.frame.specs.declared.Format.{Format}
use Rattle.frame.specs.Formats.{sizes, frame_size}
use Rattle.frame.specs.Judging.{by_checks, by_length, judge_of}
use Rattle.codewords.specs.CheckBytes.{step_in, rem_of}
use Rattle.codewords.proofs.NumbersLaws.{checks_of-numbers}
use Rattle.proposals.specs.Received.{not_too_long, size_in}
use Rattle.proposals.specs.Proposals.{proposal_of}
use Rattle.proposals.proofs.WorkedLaws.{worked_taken}

abbrev long_frame : List ℕ
long_frame =
    0x4C ∷ 0x44 ∷ 0xAE ∷ 0x0C ∷ 0x78 ∷ 0x56 ∷ 0x34 ∷ 0x12 ∷ 0x01 ∷ 0x07 ∷ 0x78 ∷ 0xEC ∷ 0xE5 ∷ 0x21 ∷ 0x04 ∷ 0xEE
    ∷ 0x9B ∷ 0x87 ∷ 0x07 ∷ 0x19 ∷ 0xE1 ∷ 0x0A ∷ 0xBF ∷ 0x79 ∷ 0x21 ∷ 0x3A ∷ 0x1F ∷ 0x85 ∷ 0x1A ∷ 0x88 ∷ 0x96 ∷ 0x85
    ∷ 0x6F ∷ 0x0D ∷ 0xD0 ∷ 0x1A ∷ 0x11 ∷ 0x25 ∷ 0xB2 ∷ 0x50 ∷ 0x41 ∷ 0xC6 ∷ 0xA1 ∷ 0xCB ∷ 0x71 ∷ 0xFE ∷ 0x32 ∷ 0x10
    ∷ 0x11 ∷ 0x12 ∷ 0x13 ∷ 0x14 ∷ 0x15 ∷ 0x16 ∷ 0x17 ∷ 0x18 ∷ 0x19 ∷ 0x1A ∷ 0x1B ∷ 0x1C ∷ 0x1D ∷ 0x1E ∷ 0x1F ∷ 0x20
    ∷ 0x21 ∷ 0x22 ∷ 0x23 ∷ 0x24 ∷ 0x25 ∷ 0x26 ∷ 0x27 ∷ 0x28 ∷ 0x29 ∷ 0x2A ∷ 0x2B ∷ 0x51 ∷ 0x53 ∷ []

abbrev long_checks : List ℕ
long_checks =
    0x6C ∷ 0x73 ∷ 0x71 ∷ 0xBA ∷ 0x00 ∷ 0x2D ∷ 0x1F ∷ 0xAB ∷ 0xBC ∷ 0x4F ∷ 0x36 ∷ 0x15 ∷ 0xA9 ∷ 0x35 ∷ 0xF7 ∷ 0xA0
    ∷ 0x6F ∷ 0x90 ∷ 0xC3 ∷ 0xBD ∷ 0x21 ∷ 0x26 ∷ 0x6E ∷ 0xD1 ∷ 0x27 ∷ 0x32 ∷ 0x1A ∷ 0xAD ∷ 0xB7 ∷ 0xC4 ∷ 0x99 ∷ 0x4C ∷ []

abbrev pub long : List ℕ
long = long_frame ++ long_checks

-- 4Ch came as 0Ch
abbrev pub heard : List ℕ
heard = 0x0C ∷ drop 1 long_frame ++ (0x21 ∷ 0x04 ∷ long_checks)

abbrev short_frame : List ℕ
short_frame = take 13 heard

abbrev short_checks : List ℕ
short_checks = take 32 (drop 15 heard)

abbrev pub short : List ℕ
short = short_frame ++ short_checks

pub all_are_bytes : Bytes heard × (Bytes long × Bytes short)
all_are_bytes = (all_bytes heard tt, (all_bytes long tt, all_bytes short tt))

short-accepted : judge_of Format.B short ≡ Ok (sizes 13 10)
unfolding judge_of by_length by_checks frame_size size_of cut first_wrong block_ok check_of reg_of byte_in bits_in
    bit_in
short-accepted = refl

long-accepted : judge_of Format.B long ≡ Ok (sizes 77 74)
unfolding judge_of by_length by_checks frame_size size_of cut first_wrong block_ok check_of reg_of byte_in bits_in
    bit_in
long-accepted = refl

-- ---- both are taken

short_taken : proposal_of Format.B short heard ≡ Ok 0
unfolding step_in rem_of scaled xors mul times_bits up size_in not_too_long frame_size size_of cut apart
short_taken =
    worked_taken Format.B short_frame short_checks heard 0 {z = 13} {n = 10} (all_bytes short_frame tt)
    (sym (checks_of-numbers short_frame)) refl (omega arith) (omega arith) refl refl (omega arith)

long_taken : proposal_of Format.B long heard ≡ Ok 1
unfolding step_in rem_of scaled xors mul times_bits up size_in not_too_long frame_size size_of cut apart
long_taken =
    worked_taken Format.B long_frame long_checks heard 1 {z = 77} {n = 74} (all_bytes long_frame tt)
    (sym (checks_of-numbers long_frame)) refl (omega arith) (omega arith) refl refl (omega arith)

pub long_is : (proposal_of Format.B long heard ≡ Ok 1) × (judge_of Format.B long ≡ Ok (sizes 77 74))
long_is = (long_taken, long-accepted)

pub short_is : (proposal_of Format.B short heard ≡ Ok 0) × (judge_of Format.B short ≡ Ok (sizes 13 10))
short_is = (short_taken, short-accepted)
