-- A part of lent memory that is written at once, and the bytes that Rust's conversions give.
--     part_stored    what a copy into the part leaves behind is what storing its elements one by one does
--     high_first     the eight bytes of a number, highest first, are those of its halves
use Rattle.std.proofs.Common.{◌≡◌, sym, ℕ, ◌+◌, ◌/◌, ◌%◌, ◌≤◌, List, length, append_assoc, arith}
use Rattle.std.proofs.lemmas.List.{drop-drop}
use Rattle.std.proofs.lemmas.List.Edits.{sets, sets-eq}
use Rattle.std.specs.Int.{w64, to_be_bytes}
use borrow.Rule.Slice.PartMut.{put_mid}
use Rattle.address.specs.Keys.{key_bytes}

pub part_stored :
    (vs l : List ℕ) (k n : ℕ) {p : List ℕ} → n ≡ length vs → k + n ≤ length l → p ≡ vs → put_mid k n l p ≡ sets l k vs
part_stored vs l k n size fits same =
    rw (same, size, drop-drop) (sym (rw append_assoc at (sets-eq vs l k (rw size at fits))))

pub high_first : (a : ℕ) → to_be_bytes w64 a ≡ key_bytes a
high_first a =
    let h0 : a / 72057594037927936 % 256 ≡ a / 4294967296 / 16777216 % 256 = omega arith in
    let h1 : a / 281474976710656 % 256 ≡ a / 4294967296 / 65536 % 256 = omega arith in
    let h2 : a / 1099511627776 % 256 ≡ a / 4294967296 / 256 % 256 = omega arith in
    let l0 : a / 16777216 % 256 ≡ a % 4294967296 / 16777216 % 256 = omega arith in
    let l1 : a / 65536 % 256 ≡ a % 4294967296 / 65536 % 256 = omega arith in
    let l2 : a / 256 % 256 ≡ a % 4294967296 / 256 % 256 = omega arith in
    let l3 : a % 256 ≡ a % 4294967296 % 256 = omega arith in
    cc
