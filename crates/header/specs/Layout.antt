-- Extended link headers (EN 13757-4:2019, 13.2.1 to 13.2.5, Tables 43 to 47; byte order 12.2): CI CC ACC, then M2 A2
-- where the kind is addressed, then SN PayloadCRC where it is secured. That order is said here and nowhere by kind.
--     ci_of k             the CI byte of the kind k
--     addressed k        whether M2 and A2 are in it
--     secured k          whether SN and PayloadCRC are in it
--     receiver_place      where M2 starts
--     session_place k     where SN starts
--     header_length k     bytes of the whole header, CI among them
--     four_bytes x        x as four bytes, least significant first
--     session_bytes s     SN, then PayloadCRC as it stands
--     receiver_part k n, session_part k s    M2 and A2, and SN and PayloadCRC, where the kind k has them, else no bytes
--     header_bytes h      the whole header as it is sent
-- Not here: CI 86h, which is not built; what the fields mean.
use Rattle.std.specs.Prelude.{List, [], ◌∷◌, ◌++◌, Bool, true, false, cond, ℕ, ◌+◌, ◌/◌, ◌%◌}
use Rattle.address.specs.declared.Name.{Name}
use Rattle.address.specs.Names.{two_bytes, name_bytes}
use Rattle.header.specs.declared.layout.HeaderKind.{HeaderKind}
use Rattle.header.specs.declared.layout.HeaderKind.TheVariants.{Plain, Secured, Addressed, AddressedSecured}
use Rattle.header.specs.declared.layout.Session.{Session}
use Rattle.header.specs.declared.layout.Header.{Header}

abbrev pub ci_of : HeaderKind → ℕ
ci_of Plain = 0x8C
ci_of Secured = 0x8D
ci_of Addressed = 0x8E
ci_of AddressedSecured = 0x8F

abbrev pub addressed : HeaderKind → Bool
addressed Plain = false
addressed Secured = false
addressed Addressed = true
addressed AddressedSecured = true

abbrev pub secured : HeaderKind → Bool
secured Plain = false
secured Secured = true
secured Addressed = false
secured AddressedSecured = true

abbrev pub receiver_place : ℕ
receiver_place = 3

abbrev pub session_place : HeaderKind → ℕ
session_place k = receiver_place + cond (addressed k) 8 0

abbrev pub header_length : HeaderKind → ℕ
header_length k = session_place k + cond (secured k) 6 0

abbrev pub four_bytes : ℕ → List ℕ
four_bytes x = two_bytes (x % 65536) ++ two_bytes (x / 65536)

abbrev pub session_bytes : Session → List ℕ
session_bytes s = four_bytes s.sn ++ (s.check.0 ∷ s.check.1 ∷ [])

abbrev pub receiver_part : HeaderKind → Name → List ℕ
receiver_part k n = cond (addressed k) (name_bytes n) []

abbrev pub session_part : HeaderKind → Session → List ℕ
session_part k s = cond (secured k) (session_bytes s) []

abbrev pub header_bytes : Header → List ℕ
header_bytes h =
    (ci_of h.kind ∷ h.cc ∷ h.acc ∷ []) ++ receiver_part h.kind h.receiver ++ session_part h.kind h.session
