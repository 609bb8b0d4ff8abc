-- A remainder as four words and as 32 bytes.
--     bytes_of_xor    the words' sums are the bytes' sums
--     bytes_of_up     each word moved up by sixteen bits, the next one's upper sixteen below it: all bytes up by two
--     bytes_put       the four words' bytes, stored one behind another
-- Assumes nothing.
use mathlib.Core.Path.{◌≡◌, refl, sym, ap, ap₂, ◌∙◌}
use mathlib.Core.List.{List, [], ◌∷◌, ◌++◌}
use Prim.Native.Nat.{ℕ, ◌+◌, ◌*◌, ◌/◌, ◌%◌, ◌^◌, ◌<◌}
use native.Mathlib.Nat.{add-zero}
use native.Mathlib.Omega.{arith}
use lib.Bits.{bit_xor, xor_shr, xor_mod}
use borrow.Rule.Slice.PartMut.{put_mid}
use lib.ListN.{drop, take, replicate}
use Rattle.std.specs.Int.{w64, to_be_bytes}
use Rattle.ground.specs.Sums.{xors}
use Rattle.ground.proofs.SumLaws.{cons}
use Rattle.address.specs.Keys.{four_bytes, key_bytes}
use Rattle.address.proofs.StoreLaws.{high_first}
use Rattle.correction.specs.declared.division.Remainder.{Remainder}
use Rattle.correction.specs.Inner.{bytes_of}

-- ---- sums

byte-xor : (u v k : ℕ) → bit_xor u v / 2 ^ k % 256 ≡ bit_xor (u / 2 ^ k % 256) (v / 2 ^ k % 256)
byte-xor u v k = ap (λ (x : ℕ). x % 256) (xor_shr u v k) ∙ xor_mod (u / 2 ^ k) (v / 2 ^ k) 8

four_bytes-xor : (u v : ℕ) → four_bytes (bit_xor u v) ≡ xors (four_bytes u) (four_bytes v)
unfolding xors
four_bytes-xor u v = rw (byte-xor u v 24, byte-xor u v 16, byte-xor u v 8, xor_mod u v 8)

joined : {p q r t : List ℕ} → p ≡ q → r ≡ t → p ++ r ≡ q ++ t
joined e f = ap₂ {C = List ℕ} (λ (x y : List ℕ). x ++ y) e f

key_bytes-xor : (u v : ℕ) → key_bytes (bit_xor u v) ≡ xors (key_bytes u) (key_bytes v)
unfolding xors
key_bytes-xor u v =
    ap₂ {C = List ℕ} (λ (x y : ℕ). four_bytes x ++ four_bytes y) (xor_shr u v 32) (xor_mod u v 32)
    ∙ joined (four_bytes-xor (u / 4294967296) (v / 4294967296)) (four_bytes-xor (u % 4294967296) (v % 4294967296))

abbrev pub sum_of : Remainder → Remainder → Remainder
sum_of m n =
    record {
      a = bit_xor m.a n.a;
      b = bit_xor m.b n.b;
      c = bit_xor m.c n.c;
      d = bit_xor m.d n.d;
    }

pub bytes_of_xor : (m n : Remainder) → bytes_of (sum_of m n) ≡ xors (bytes_of m) (bytes_of n)
unfolding xors
bytes_of_xor m n =
    joined (key_bytes-xor m.a n.a)
    (joined (key_bytes-xor m.b n.b) (joined (key_bytes-xor m.c n.c) (key_bytes-xor m.d n.d)))

-- ---- moved up

-- what the code makes of a word u and the next one, v
abbrev pub up_of : ℕ → ℕ → ℕ
up_of u v = u * 65536 % 18446744073709551616 + v / 281474976710656

shifted : (u : ℕ) → u * 65536 % 18446744073709551616 ≡ u % 281474976710656 * 65536
shifted u = omega arith

low_part : (u : ℕ) → u % 281474976710656 < 281474976710656
low_part u = omega arith

-- six bytes and two
six : ℕ → List ℕ
six x =
    x / 1099511627776 % 256 ∷ x / 4294967296 % 256 ∷ x / 16777216 % 256 ∷ x / 65536 % 256 ∷ x / 256 % 256 ∷ x % 256 ∷ []

two : ℕ → List ℕ
two y = y / 256 % 256 ∷ y % 256 ∷ []

eight : (x y : ℕ) → y < 65536 → key_bytes (x * 65536 + y) ≡ six x ++ two y
unfolding six two
eight x y h =
    cons (omega arith) (cons (omega arith) (cons (omega arith) (cons (omega arith)
    (cons (omega arith) (cons (omega arith) (cons (omega arith) (cons (omega arith) refl)))))))

first_two : (v : ℕ) → take 2 (key_bytes v) ≡ two (v / 281474976710656)
unfolding two
first_two v = cons (omega arith) (cons (omega arith) refl)

last_six : (u : ℕ) → drop 2 (key_bytes u) ≡ six (u % 281474976710656)
unfolding six
last_six u =
    cons (omega arith) (cons (omega arith) (cons (omega arith) (cons (omega arith)
    (cons (omega arith) (cons (omega arith) refl)))))

key_bytes_up : (u v : ℕ) → v < 18446744073709551616
    → key_bytes (up_of u v) ≡ drop 2 (key_bytes u) ++ take 2 (key_bytes v)
key_bytes_up u v h =
    ap (λ (x : ℕ). key_bytes (x + v / 281474976710656)) (shifted u)
    ∙ eight (u % 281474976710656) (v / 281474976710656) (omega arith)
    ∙ sym (joined (last_six u) (first_two v))

abbrev pub up_all : Remainder → Remainder
up_all m =
    record {
      a = up_of m.a m.b;
      b = up_of m.b m.c;
      c = up_of m.c m.d;
      d = m.d * 65536 % 18446744073709551616;
    }

key_bytes_last : (u : ℕ) → key_bytes (u * 65536 % 18446744073709551616) ≡ drop 2 (key_bytes u) ++ (0 ∷ 0 ∷ [])
key_bytes_last u = ap key_bytes (sym (add-zero (u * 65536 % 18446744073709551616))) ∙ key_bytes_up u 0 (omega arith)

pub bytes_of_up : (m : Remainder)
    → m.b < 18446744073709551616 → m.c < 18446744073709551616 → m.d < 18446744073709551616
    → bytes_of (up_all m) ≡ drop 2 (bytes_of m) ++ (0 ∷ 0 ∷ [])
bytes_of_up m hb hc hd =
    joined (key_bytes_up m.a m.b hb)
    (joined (key_bytes_up m.b m.c hc) (joined (key_bytes_up m.c m.d hd) (key_bytes_last m.d)))

-- ---- stored

pub bytes_put : (m : Remainder) {a b c d : List ℕ}
    → a ≡ to_be_bytes w64 m.a → b ≡ to_be_bytes w64 m.b → c ≡ to_be_bytes w64 m.c → d ≡ to_be_bytes w64 m.d
    → put_mid 24 8 (put_mid 16 8 (put_mid 8 8 (a ++ replicate 24 0) b) c) d ≡ bytes_of m
bytes_put m ea eb ec ed =
    rw (ea ∙ high_first m.a, eb ∙ high_first m.b, ec ∙ high_first m.c, ed ∙ high_first m.d) refl
