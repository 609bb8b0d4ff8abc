-- The calls that are lent memory: what the caller is told, and what the memory holds then.
--     call_decode, ..                     what the definition of the crate below gives, told
--     header_of k cc acc m2 sn a2 crc     a header from what a caller in C hands over, A2 and PayloadCRC as their
--                                        bytes; what its kind lacks is not looked at
use Rattle.std.specs.Prelude.{List, ℕ, get_or}
use Rattle.answers.specs.Outcome.{Outcome}
use Rattle.line.specs.declared.codes.Code.{Code}
use Rattle.line.specs.Codes.{code_of}
use Rattle.line.specs.Decoding.{decoded}
use Rattle.line.specs.Encoding.{encoded}
use Rattle.frame.specs.declared.Format.{Format}
use Rattle.frame.specs.Reads.{reading_of}
use Rattle.frame.specs.Writes.{writing_of}
use Rattle.frame.specs.Changes.{changing_of}
use Rattle.sync.specs.declared.Kind.{Kind}
use Rattle.radio.specs.Receiving.{reception_of, manchester_of}
use Rattle.radio.specs.Sending.{sending_of}
use Rattle.header.specs.declared.layout.HeaderKind.{HeaderKind}
use Rattle.header.specs.declared.layout.Header.{Header}
use Rattle.header.specs.HeaderWrites.{header_writing_of}
use Rattle.address.specs.Keys.{key_at}
use Rattle.sessions.specs.StoreCalls.{emptying, adding_by, hearing_in, issuing, restoring, setting_allowance, writing_store}
use Rattle.codewords.specs.Corrections.{correcting_of, checking_of}
use Rattle.proposals.specs.Proposals.{proposing_of}
use Rattle.kusikhut.specs.Told.{Told, tells, told_decoded, told_number, told_frame, told_reception}

abbrev pub call_decode : Code → List ℕ → ℕ → ℕ → List ℕ → Outcome (Told ℕ)
call_decode code s k n d = tells told_decoded (decoded (code_of code) s k n d)

abbrev pub call_encode : Code → List ℕ → List ℕ → Outcome (Told ℕ)
call_encode code s d = tells told_number (encoded (code_of code) s d)

abbrev pub call_read : Format → List ℕ → List ℕ → Outcome (Told ℕ)
call_read f s d = tells told_frame (reading_of f s d)

abbrev pub call_write : Format → List ℕ → List ℕ → Outcome (Told ℕ)
call_write f s d = tells told_number (writing_of f s d)

abbrev pub call_change : Format → List ℕ → ℕ → ℕ → Outcome (Told ℕ)
call_change f d k b = tells told_frame (changing_of f d k b)

abbrev pub call_receive : List ℕ → ℕ → ℕ → List ℕ → Outcome (Told ℕ)
call_receive s k allowance d = tells told_reception (reception_of s k allowance d)

abbrev pub call_manchester : List ℕ → ℕ → List ℕ → Outcome (Told ℕ)
call_manchester s k d = tells told_reception (manchester_of s k d)

abbrev pub call_send : Kind → List ℕ → List ℕ → Outcome (Told ℕ)
call_send k s d = tells told_number (sending_of k s d)

abbrev pub header_of : HeaderKind → ℕ → ℕ → ℕ → ℕ → List ℕ → List ℕ → Header
header_of k cc acc m2 sn a2 crc =
    record {
      kind = k;
      cc = cc;
      acc = acc;
      receiver =
          record {
            m = m2;
            a = (get_or a2 0 0, get_or a2 1 0, get_or a2 2 0, get_or a2 3 0, get_or a2 4 0, get_or a2 5 0);
          };
      session = record { sn = sn; check = (get_or crc 0 0, get_or crc 1 0) };
    }

abbrev pub call_header : Header → List ℕ → Outcome (Told ℕ)
call_header h d = tells told_number (header_writing_of h d)

abbrev pub call_empty : List ℕ → Outcome (Told ℕ)
call_empty s = tells told_number (emptying s)

abbrev pub call_add : List ℕ → List ℕ → ℕ → ℕ → Outcome (Told ℕ)
call_add s meter k j = tells told_number (adding_by (key_at meter 0) k j s)

abbrev pub call_hear : List ℕ → List ℕ → ℕ → Outcome (Told ℕ)
call_hear s meter n = tells told_number (hearing_in (key_at meter 0) n s)

abbrev pub call_issue : List ℕ → List ℕ → Outcome (Told ℕ)
call_issue s meter = tells told_number (issuing (key_at meter 0) s)

abbrev pub call_restore : List ℕ → List ℕ → Outcome (Told ℕ)
call_restore s file = tells told_number (restoring file s)

abbrev pub call_set_allowance : List ℕ → ℕ → Outcome (Told ℕ)
call_set_allowance s n = tells told_number (setting_allowance n s)

abbrev pub call_write_store : List ℕ → List ℕ → Outcome (Told ℕ)
call_write_store s d = tells told_number (writing_store s d)

abbrev pub call_correct : Format → List ℕ → List ℕ → Outcome (Told ℕ)
call_correct f s d = tells told_number (correcting_of f s d)

abbrev pub call_check_bytes : List ℕ → List ℕ → Outcome (Told ℕ)
call_check_bytes w d = tells told_number (checking_of w d)

-- k is how many wrong bytes are mended
abbrev pub call_propose : ℕ → Format → List ℕ → List ℕ → Outcome (Told ℕ)
call_propose k f s d = tells told_number (proposing_of k f s d)
