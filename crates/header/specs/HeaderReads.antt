-- Reading an extended header from a body (document 01, "Extended headers and names", "Answer numbers").
--     fields_of h          the fields of h in the order of 13.2, M2 and SN as numbers, A2 and PayloadCRC as bytes
--     header_kind_of ci     the kind that the CI byte stands for, or 11
--     four_at s k          the number in four bytes of s from place k, least significant first
--     session_at s k       SN and PayloadCRC from place k of s
--     trimmed h           h with zeros in the fields that its kind lacks
--     header_in k s        the header of the kind k at the start of s
--     header_reading_as c s    the answer for a body whose CI stands for c
--     header_reading_of s      the answer: 12 for an empty body, 11, 12, else the header and its length
-- Bytes behind the header are not looked at.
use Rattle.std.specs.Prelude.{List, [], ◌∷◌, cond, ℕ, ◌+◌, ◌*◌, eqb, ltb, length, get_or, Result, Ok, Err}
use Rattle.answers.specs.declared.Refusal.{Refusal}
use Rattle.answers.specs.declared.Refusal.TheVariants.{UnknownCi, ShortBody}
use Rattle.address.specs.Names.{two_at, name_at}
use Rattle.header.specs.Layout.{ci_of, addressed, secured, receiver_place, session_place, header_length}
use Rattle.header.specs.declared.layout.HeaderKind.{HeaderKind}
use Rattle.header.specs.declared.layout.HeaderKind.TheVariants.{Plain, Secured, Addressed, AddressedSecured}
use Rattle.header.specs.declared.layout.Session.{Session}
use Rattle.header.specs.declared.layout.Header.{Header}

abbrev pub fields_of : Header → List ℕ
fields_of h =
    let a = h.receiver.a in
    ci_of h.kind ∷ h.cc ∷ h.acc ∷ h.receiver.m ∷ a.0 ∷ a.1 ∷ a.2 ∷ a.3 ∷ a.4 ∷ a.5
    ∷ h.session.sn ∷ h.session.check.0 ∷ h.session.check.1 ∷ []

abbrev pub header_kind_of : ℕ → Result HeaderKind Refusal
header_kind_of ci =
    cond (eqb ci (ci_of Plain)) (Ok Plain)
    (cond (eqb ci (ci_of Secured)) (Ok Secured)
    (cond (eqb ci (ci_of Addressed)) (Ok Addressed)
    (cond (eqb ci (ci_of AddressedSecured)) (Ok AddressedSecured)
    (Err UnknownCi))))

abbrev pub four_at : List ℕ → ℕ → ℕ
four_at s k = two_at s k + 65536 * two_at s (k + 2)

abbrev pub session_at : List ℕ → ℕ → Session
session_at s k = record { sn = four_at s k; check = (get_or s (k + 4) 0, get_or s (k + 5) 0) }

abbrev pub trimmed : Header → Header
trimmed h =
    record {
      kind = h.kind;
      cc = h.cc;
      acc = h.acc;
      receiver = cond (addressed h.kind) h.receiver (record { m = 0; a = (0, 0, 0, 0, 0, 0) });
      session = cond (secured h.kind) h.session (record { sn = 0; check = (0, 0) });
    }

abbrev pub header_in : HeaderKind → List ℕ → Header
header_in k s =
    trimmed
    (record {
      kind = k;
      cc = get_or s 1 0;
      acc = get_or s 2 0;
      receiver = name_at s receiver_place;
      session = session_at s (session_place k);
    })

abbrev pub header_reading_as : Result HeaderKind Refusal → List ℕ → Result (Header × ℕ) Refusal
header_reading_as (Err r) s = Err r
header_reading_as (Ok k) s =
    cond (ltb (length s) (header_length k)) (Err ShortBody) (Ok (header_in k s, header_length k))

abbrev pub header_reading_of : List ℕ → Result (Header × ℕ) Refusal
header_reading_of s = cond (eqb (length s) 0) (Err ShortBody) (header_reading_as (header_kind_of (get_or s 0 0)) s)
