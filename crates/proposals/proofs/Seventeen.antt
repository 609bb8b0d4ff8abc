-- Why nothing is claimed beyond sixteen wrong bytes: Annex C.2's frame, with 96h in place of 65h in its content, is
-- another frame, and the two words are no farther apart than 33. With 17 bytes as in the other, the other is near.
--     sent, other      the two words: frame and check bytes
--     heard17          what was received of the first
--     all_bytes17      these are bytes
--     sent_is          17 bytes of it are wrong; it is a frame that reading accepts
--     other_is         the other is proposed, and taken, with 16 differing bytes; it is such a frame, too
-- Assumes nothing.
use mathlib.Core.List.{List, [], ◌∷◌, ◌++◌}
use mathlib.Core.Path.{◌≡◌, refl, sym}
use Prim.Native.Nat.{ℕ, ◌≤◌}
use native.Mathlib.Omega.{arith}
use lib.ListN.{length, drop}
use Rattle.std.specs.Prelude.{Ok}
use Rattle.answers.specs.Outcome.{leaving}
use Rattle.ground.specs.Apart.{apart}
use Rattle.ground.specs.Bytes.{Bytes}
use Rattle.ground.specs.Sums.{xors}
use Rattle.ground.proofs.TableLaws.{all_bytes}
use Rattle.crc.specs.Check.{bit_in, bits_in, byte_in, reg_of, check_of}
use Rattle.blocks.specs.Spans.{size_of, cut, block_ok, first_wrong}
use Rattle.field.specs.Field.{up, times_bits, mul}
use Rattle.field.specs.Polynomials.{scaled}
use Rattle.frame.specs.declared.Format.{Format}
use Rattle.frame.specs.Formats.{sizes, frame_size}
use Rattle.frame.specs.Judging.{by_checks, by_length, judge_of}
use Rattle.codewords.specs.CheckBytes.{step_in, rem_of}
use Rattle.codewords.proofs.NumbersLaws.{checks_of-numbers}
use Rattle.proposals.specs.Received.{not_too_long, size_in, received}
use Rattle.proposals.specs.Proposals.{proposal_of, proposing_of}
use Rattle.proposals.proofs.CodeLaws.{checks_code}
use Rattle.proposals.proofs.ReceivedLaws.{bytes-received}
use Rattle.proposals.proofs.WrittenLaws.{Sent, word-proposed}
use Rattle.proposals.proofs.WorkedLaws.{worked_taken}

abbrev sent_frame : List ℕ
sent_frame =
    0x0F ∷ 0x44 ∷ 0xAE ∷ 0x0C ∷ 0x78 ∷ 0x56 ∷ 0x34 ∷ 0x12 ∷ 0x01 ∷ 0x07 ∷ 0x44 ∷ 0x47 ∷ 0x78 ∷ 0x0B ∷ 0x13 ∷ 0x43
    ∷ 0x65 ∷ 0x87 ∷ 0x1E ∷ 0x6D ∷ []

abbrev sent_checks : List ℕ
sent_checks =
    0x84 ∷ 0xEA ∷ 0x27 ∷ 0x69 ∷ 0x58 ∷ 0xEC ∷ 0x76 ∷ 0xA2 ∷ 0x96 ∷ 0x78 ∷ 0xBF ∷ 0x51 ∷ 0xDF ∷ 0xED ∷ 0x76 ∷ 0x61
    ∷ 0xD4 ∷ 0x6D ∷ 0x36 ∷ 0xB8 ∷ 0x52 ∷ 0x3B ∷ 0xAE ∷ 0x78 ∷ 0x7C ∷ 0xEF ∷ 0xFD ∷ 0x7B ∷ 0x00 ∷ 0x7E ∷ 0xC9 ∷ 0xC6 ∷ []

abbrev pub sent : List ℕ
sent = sent_frame ++ sent_checks

abbrev other_frame : List ℕ
other_frame =
    0x0F ∷ 0x44 ∷ 0xAE ∷ 0x0C ∷ 0x78 ∷ 0x56 ∷ 0x34 ∷ 0x12 ∷ 0x01 ∷ 0x07 ∷ 0x44 ∷ 0x47 ∷ 0x78 ∷ 0x0B ∷ 0x13 ∷ 0x43
    ∷ 0x96 ∷ 0x87 ∷ 0x91 ∷ 0x77 ∷ []

abbrev other_checks : List ℕ
other_checks =
    0xD1 ∷ 0xEA ∷ 0x70 ∷ 0x29 ∷ 0xA2 ∷ 0xAF ∷ 0xB8 ∷ 0x80 ∷ 0x08 ∷ 0xD2 ∷ 0xFE ∷ 0xF9 ∷ 0x76 ∷ 0x21 ∷ 0xF7 ∷ 0xC7
    ∷ 0xAB ∷ 0x0F ∷ 0xE5 ∷ 0xBC ∷ 0x0A ∷ 0x53 ∷ 0x32 ∷ 0x50 ∷ 0x30 ∷ 0x74 ∷ 0x59 ∷ 0x20 ∷ 0x8F ∷ 0x39 ∷ 0xC9 ∷ 0x27 ∷ []

abbrev pub other : List ℕ
other = other_frame ++ other_checks

abbrev pub heard17 : List ℕ
heard17 =
    0x0F ∷ 0x44 ∷ 0xAE ∷ 0x0C ∷ 0x78 ∷ 0x56 ∷ 0x34 ∷ 0x12 ∷ 0x01 ∷ 0x07 ∷ 0x44 ∷ 0x47 ∷ 0x78 ∷ 0x0B ∷ 0x13 ∷ 0x43
    ∷ 0x96 ∷ 0x87 ∷ 0x91 ∷ 0x77 ∷ 0x21 ∷ 0x04 ∷ 0xD1 ∷ 0xEA ∷ 0x70 ∷ 0x29 ∷ 0xA2 ∷ 0xAF ∷ 0xB8 ∷ 0x80 ∷ 0x08 ∷ 0xD2
    ∷ 0xFE ∷ 0xF9 ∷ 0x76 ∷ 0x21 ∷ 0xF7 ∷ 0x61 ∷ 0xD4 ∷ 0x6D ∷ 0x36 ∷ 0xB8 ∷ 0x52 ∷ 0x3B ∷ 0xAE ∷ 0x78 ∷ 0x7C ∷ 0xEF
    ∷ 0xFD ∷ 0x7B ∷ 0x00 ∷ 0x7E ∷ 0xC9 ∷ 0xC6 ∷ []

pub all_bytes17 : Bytes heard17 × (Bytes sent × Bytes other)
all_bytes17 = (all_bytes heard17 tt, (all_bytes sent tt, all_bytes other tt))

wrong_bytes : apart (received 20 heard17) sent ≡ 17
unfolding apart
wrong_bytes = refl

both_frames : (judge_of Format.A sent ≡ Ok (sizes 20 15)) × (judge_of Format.A other ≡ Ok (sizes 20 15))
unfolding judge_of by_length by_checks frame_size size_of cut first_wrong block_ok check_of reg_of byte_in bits_in
    bit_in
both_frames = (refl, refl)

other_taken : proposal_of Format.A other heard17 ≡ Ok 16
unfolding step_in rem_of scaled xors mul times_bits up size_in not_too_long frame_size size_of cut apart
other_taken =
    worked_taken Format.A other_frame other_checks heard17 16 {z = 20} {n = 15} (all_bytes other_frame tt)
    (sym (checks_of-numbers other_frame)) refl (omega arith) (omega arith) refl refl (omega arith)

other_sent : Sent Format.A other 20 15
unfolding step_in rem_of scaled xors mul times_bits up frame_size size_of cut
other_sent =
    record {
      bytes = all_bytes other tt;
      code = checks_code other_frame (all_bytes other_frame tt) (sym (checks_of-numbers other_frame));
      count = refl;
      size = refl;
      some = omega arith;
      most = omega arith;
    }

other-proposed :
    (e : List ℕ) → 52 ≤ length e
    → proposing_of 16 Format.A heard17 e ≡ leaving (Ok 52) (other ++ drop 52 e)
unfolding apart
other-proposed e room =
    word-proposed other_sent heard17 (omega arith) 16 (omega arith) (bytes-received 20 heard17 (all_bytes heard17 tt))
    refl (omega arith) e room

pub sent_is : (apart (received 20 heard17) sent ≡ 17) × (judge_of Format.A sent ≡ Ok (sizes 20 15))
sent_is = (wrong_bytes, both_frames.0)

pub other_is :
    ((e : List ℕ) → 52 ≤ length e
    → proposing_of 16 Format.A heard17 e ≡ leaving (Ok 52) (other ++ drop 52 e))
    × ((proposal_of Format.A other heard17 ≡ Ok 16) × (judge_of Format.A other ≡ Ok (sizes 20 15)))
other_is = (other-proposed, (other_taken, both_frames.1))
