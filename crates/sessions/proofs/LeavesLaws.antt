-- A store as bytes, and the memory that a call leaves (specs/StoreFile, specs/StoreCalls).
--     length_bytes_of, bytes_bytes_of    as many as `size_of` says, all of them bytes
--     size_of_valid                     memory has room for them
--     length_leaves, bytes_leaves      memory stays as long as it was, and bytes stay bytes
--     memory_of_bytes_of, memory_of_leaves    memory that begins with them holds the store; memory that a call left
--     file_of-written, file_of-version_one    a file that was written is read as the same store
-- Assumes nothing.
use Rattle.std.specs.Prelude.{Ok}
use mathlib.Core.List.{List, [], ◌∷◌, ◌++◌, append-nil}
use mathlib.Core.Path.{◌≡◌, refl, sym}
use Prim.Native.Nat.{ℕ, ◌+◌, ◌*◌, ◌≤◌}
use native.Mathlib.Omega.{arith}
use borrow.Author.Tests.{le-leb, eq-eqb, ne_eqb}
use lib.ListN.{length, drop, length-append}
use Rattle.ground.specs.Bytes.{Bytes}
use Rattle.ground.proofs.ByteLaws.{bytes-cons, bytes-append, bytes_drop}
use Rattle.ground.proofs.FrontLaws.{front_length}
use Rattle.address.specs.Keys.{four_bytes}
use Rattle.address.proofs.KeyLaws.{four_at-append, bytes-four_bytes}
use Rattle.sessions.specs.declared.Meter.{Meter}
use Rattle.sessions.specs.Meters.{Store}
use Rattle.sessions.specs.StoreFile.{meters_bytes, bytes_of, version_one, size_of, file_of, memory_size, memory_of}
use Rattle.sessions.specs.StoreCalls.{leaves}
use Rattle.sessions.specs.Valid.{Valid}
use Rattle.sessions.proofs.MeterBytesLaws.{length-meters_bytes, bytes-meters_bytes}
use Rattle.sessions.proofs.BodyLaws.{MetersAt, meters_in_body, right_body_body}

pub length_bytes_of : (st : Store) → length (bytes_of st) ≡ size_of st
length_bytes_of st = omega (arith, length-meters_bytes st.meters)

pub length_leaves : (st : Store) (s : List ℕ) → size_of st ≤ length s → length (leaves st s) ≡ length s
length_leaves st s h = front_length (bytes_of st) s (size_of st) (length_bytes_of st) h

pub size_of_valid : {st : Store} → Valid st → size_of st ≤ memory_size
size_of_valid v = omega (arith, v.few)

bytes_body : (ms : List Meter) → length ms ≤ 64 → Bytes (1 ∷ length ms ∷ meters_bytes ms)
bytes_body ms few =
    bytes-cons 1 (length ms ∷ meters_bytes ms) (omega arith)
    (bytes-cons (length ms) (meters_bytes ms) (omega arith) (bytes-meters_bytes ms))

bytes_head : (n : ℕ) → Bytes (2 ∷ 4 ∷ four_bytes n)
bytes_head n =
    bytes-cons 2 (4 ∷ four_bytes n) (omega arith) (bytes-cons 4 (four_bytes n) (omega arith) (bytes-four_bytes n))

pub bytes_bytes_of : {st : Store} → Valid st → Bytes (bytes_of st)
bytes_bytes_of {st} v =
    bytes-append (2 ∷ 4 ∷ four_bytes st.allowance) (1 ∷ length st.meters ∷ meters_bytes st.meters)
    (bytes_head st.allowance) (bytes_body st.meters v.few)

pub bytes_leaves : {st : Store} (s : List ℕ) → Valid st → Bytes s → Bytes (leaves st s)
bytes_leaves {st} s v bytes =
    bytes-append (bytes_of st) (drop (size_of st) s) (bytes_bytes_of v) (bytes_drop (size_of st) s bytes)

body_bytes_of : (st : Store) (rest : List ℕ) → MetersAt 6 (bytes_of st ++ rest) st.meters rest
body_bytes_of st rest =
    record {
      one = refl;
      count = refl;
      room = omega (arith, length-append (bytes_of st) rest, length_bytes_of st);
      bytes = refl;
    }

body_version_one : (ms : List Meter) → MetersAt 1 (version_one ms) ms []
body_version_one ms =
    record {
      one = refl;
      count = refl;
      room = omega (arith, length-meters_bytes ms);
      bytes = sym (append-nil (meters_bytes ms));
    }

pub memory_of_bytes_of :
    {st : Store} (rest : List ℕ) → Valid st → memory_size ≤ length (bytes_of st ++ rest)
    → memory_of (bytes_of st ++ rest) ≡ Ok st
memory_of_bytes_of {st} rest v room =
    let b = body_bytes_of st rest in
    let allowance = four_at-append [] [] st.allowance v.allows in
    let all = length (bytes_of st ++ rest) in
    rw (
      ne_eqb all 0 (λ e. omega arith),
      le-leb memory_size all room,
      right_body_body v b,
      meters_in_body v b,
      allowance,
    )

pub memory_of_leaves :
    {st : Store} (s : List ℕ) → Valid st → memory_size ≤ length s → memory_of (leaves st s) ≡ Ok st
memory_of_leaves {st} s v room =
    let size = length_leaves st s (omega (arith, size_of_valid v)) in
    memory_of_bytes_of (drop (size_of st) s) v (omega (arith, size))

pub file_of-written : {st : Store} → Valid st → file_of (bytes_of st) ≡ Ok st
file_of-written {st} v =
    let b = rw (append-nil (bytes_of st)) at (body_bytes_of st []) in
    let some = ne_eqb (length (bytes_of st)) 0 (λ e. omega arith) in
    let size = eq-eqb (length (bytes_of st)) (size_of st) (length_bytes_of st) in
    let allowance = four_at-append [] [] st.allowance v.allows in
    rw (some, right_body_body v b, size, meters_in_body v b, allowance)

pub file_of-version_one :
    {ms : List Meter} → Valid (record { meters = ms; allowance = 16384 })
    → file_of (version_one ms) ≡ Ok (record { meters = ms; allowance = 16384 })
file_of-version_one {ms} v =
    let b = body_version_one ms in
    let some = ne_eqb (length (version_one ms)) 0 (λ e. omega arith) in
    let size = eq-eqb (length (version_one ms)) (3 + 20 * length ms) (omega (arith, length-meters_bytes ms)) in
    rw (some, right_body_body v b, size, meters_in_body v b)
