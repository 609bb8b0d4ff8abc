-- Laws of the check. All of it is linear: what two patterns do together is the sum of what each does alone.
--     bit_in_high, bit_in_low      the definition of one bit's step, by cases of the highest bit
--     reg_of_drop                 one byte of a slice
--     reg_of_append               bytes after bytes
--     bit_in-xor .. reg_of_xor     linearity, from one bit to a list of bytes
--     check_of-xor                the sum of two checks has no complement in it
--     reg_of_added                a sum in the register goes through later bytes as through zeros
--     check_of_changed            a check after one byte was changed: the old check and the share of the difference
--     reg_of_lt .. check_of-lt     sixteen bits, whatever the numbers that stand for bytes
-- Assumes nothing.
use mathlib.Core.Path.{◌≡◌, refl, sym, ap, ap₂, ◌∙◌}
use mathlib.Core.List.{List, [], ◌∷◌, ◌++◌}
use Prim.Native.Nat.{ℕ, zero, suc, ◌+◌, ◌*◌, ◌/◌, ◌%◌, ◌<◌, ◌≤◌}
use native.Mathlib.Omega.{arith}
use native.Mathlib.Numerals.{add-one}
use lib.Bits.{bit_xor, xor_shr, xor_mod, xor_zero_r, xor_lt}
use lib.ListN.{length, drop, get_or, replicate, length-replicate}
use lib.Seq.{drop-cons}
use Rattle.ground.proofs.XorLaws.{xor_swap, xor-shl, xor_last, xor_cancel}
use Rattle.ground.proofs.SumLaws.{xors_zeros}
use Rattle.ground.specs.Sums.{xors}
use Rattle.crc.specs.Check.{bit_in, bits_in, byte_in, reg_of, check_of}
use Rattle.crc.specs.CheckUpdate.{share_of, updated_check}

-- ---- the code's test of the highest bit against the definition, which has none

pub bit_in_high : (r : ℕ) → 32768 ≤ r → r < 65536 → bit_xor (r * 2 % 65536) 0x3D65 ≡ bit_in r
unfolding bit_in
bit_in_high r low high =
    let top : r / 32768 % 2 ≡ 1 = omega arith in
    rw top

pub bit_in_low : (r : ℕ) → r < 32768 → r * 2 % 65536 ≡ bit_in r
unfolding bit_in
bit_in_low r low =
    let top : r / 32768 % 2 ≡ 0 = omega arith in
    rw (top, xor_zero_r)

-- ---- along a slice

pub reg_of_drop :
    (s : List ℕ) (i r : ℕ) → i < length s → reg_of (byte_in r (get_or s i 0)) (drop (i + 1) s) ≡ reg_of r (drop i s)
unfolding reg_of
reg_of_drop s i r h = rw (add-one i, drop-cons s i 0 h)

pub reg_of_append : (r : ℕ) (xs bs : List ℕ) → reg_of r (xs ++ bs) ≡ reg_of (reg_of r xs) bs
unfolding reg_of
reg_of_append r [] bs = refl
reg_of_append r (x ∷ xs) bs = reg_of_append (byte_in r x) xs bs

-- ---- linearity

-- a bit times the polynomial
polynomial_xor : (t u : ℕ) → t < 2 → u < 2 → bit_xor t u * 0x3D65 ≡ bit_xor (t * 0x3D65) (u * 0x3D65)
polynomial_xor zero u ht hu = refl
polynomial_xor (suc zero) zero ht hu = refl
polynomial_xor (suc zero) (suc zero) ht hu = refl
polynomial_xor (suc zero) (suc (suc u)) ht hu = absurd (omega arith)
polynomial_xor (suc (suc t)) u ht hu = absurd (omega arith)

shifted-xor : (r s : ℕ) → bit_xor r s * 2 % 65536 ≡ bit_xor (r * 2 % 65536) (s * 2 % 65536)
shifted-xor r s = ap (λ (x : ℕ). x % 65536) (xor-shl r s 1) ∙ xor_mod (r * 2) (s * 2) 16

top_xor : (r s : ℕ) → bit_xor r s / 32768 % 2 * 0x3D65 ≡ bit_xor (r / 32768 % 2 * 0x3D65) (s / 32768 % 2 * 0x3D65)
top_xor r s =
    ap (λ (x : ℕ). x % 2 * 0x3D65) (xor_shr r s 15)
    ∙ ap (λ (x : ℕ). x * 0x3D65) (xor_mod (r / 32768) (s / 32768) 1)
    ∙ polynomial_xor (r / 32768 % 2) (s / 32768 % 2) (omega arith) (omega arith)

pub bit_in-xor : (r s : ℕ) → bit_in (bit_xor r s) ≡ bit_xor (bit_in r) (bit_in s)
unfolding bit_in
bit_in-xor r s =
    ap₂ bit_xor (shifted-xor r s) (top_xor r s)
    ∙ xor_swap (r * 2 % 65536) (s * 2 % 65536) (r / 32768 % 2 * 0x3D65) (s / 32768 % 2 * 0x3D65)

pub bits_in-xor : (n r s : ℕ) → bits_in n (bit_xor r s) ≡ bit_xor (bits_in n r) (bits_in n s)
unfolding bits_in
bits_in-xor zero r s = refl
bits_in-xor (suc n) r s = ap (bits_in n) (bit_in-xor r s) ∙ bits_in-xor n (bit_in r) (bit_in s)

pub byte_in-xor : (r s a b : ℕ) → byte_in (bit_xor r s) (bit_xor a b) ≡ bit_xor (byte_in r a) (byte_in s b)
unfolding byte_in
byte_in-xor r s a b =
    ap (bits_in 8) (ap (bit_xor (bit_xor r s)) (xor-shl a b 8) ∙ xor_swap r s (a * 256) (b * 256))
    ∙ bits_in-xor 8 (bit_xor r (a * 256)) (bit_xor s (b * 256))

-- byte by byte
pub reg_of_xor : (r s : ℕ) (xs bs : List ℕ) → length xs ≡ length bs
    → reg_of (bit_xor r s) (xors xs bs) ≡ bit_xor (reg_of r xs) (reg_of s bs)
unfolding reg_of xors
reg_of_xor r s [] [] e = refl
reg_of_xor r s [] (b ∷ bs) e = absurd (omega arith)
reg_of_xor r s (x ∷ xs) [] e = absurd (omega arith)
reg_of_xor r s (x ∷ xs) (b ∷ bs) e =
    ap (λ (v : ℕ). reg_of v (xors xs bs)) (byte_in-xor r s x b)
    ∙ reg_of_xor (byte_in r x) (byte_in s b) xs bs (omega arith)

pub check_of-xor : (xs bs : List ℕ) → length xs ≡ length bs
    → bit_xor (check_of xs) (check_of bs) ≡ reg_of 0 (xors xs bs)
unfolding check_of
check_of-xor xs bs e =
    xor_swap (reg_of 0 xs) 0xFFFF (reg_of 0 bs) 0xFFFF ∙ xor_zero_r _ ∙ sym (reg_of_xor 0 0 xs bs e)

-- ---- a changed byte

-- what was added to the register earlier goes through the later bytes as through zeros
pub reg_of_added :
    (r s : ℕ) (xs : List ℕ) → reg_of (bit_xor r s) xs ≡ bit_xor (reg_of r xs) (reg_of s (replicate (length xs) 0))
reg_of_added r s xs =
    ap (reg_of (bit_xor r s)) (sym (xors_zeros xs))
    ∙ reg_of_xor r s xs (replicate (length xs) 0) (sym (length-replicate (length xs) 0))

byte_in_changed : (r old new : ℕ) → byte_in r new ≡ bit_xor (byte_in r old) (byte_in 0 (bit_xor old new))
byte_in_changed r old new =
    ap₂ byte_in (sym (xor_zero_r r)) (sym (xor_cancel old new)) ∙ byte_in-xor r 0 old (bit_xor old new)

pub reg_of_changed : (r old new : ℕ) (pre post : List ℕ)
    → reg_of r (pre ++ (new ∷ post))
    ≡ bit_xor (reg_of r (pre ++ (old ∷ post))) (share_of (bit_xor old new) (length post))
unfolding reg_of share_of
reg_of_changed r old new [] post =
    ap (λ (v : ℕ). reg_of v post) (byte_in_changed r old new)
    ∙ reg_of_added (byte_in r old) (byte_in 0 (bit_xor old new)) post
reg_of_changed r old new (b ∷ pre) post = reg_of_changed (byte_in r b) old new pre post

pub check_of_changed : (old new : ℕ) (pre post : List ℕ)
    → check_of (pre ++ (new ∷ post)) ≡ updated_check (check_of (pre ++ (old ∷ post))) old new (length post)
unfolding check_of
check_of_changed old new pre post =
    ap (λ (v : ℕ). bit_xor v 0xFFFF) (reg_of_changed 0 old new pre post)
    ∙ xor_last (reg_of 0 (pre ++ (old ∷ post))) (share_of (bit_xor old new) (length post)) 0xFFFF

-- ---- sixteen bits, whatever the bytes

pub bit_in-lt : (r : ℕ) → bit_in r < 65536
unfolding bit_in
bit_in-lt r = xor_lt 16 (r * 2 % 65536) (r / 32768 % 2 * 0x3D65) (omega arith) (omega arith)

pub byte_in-lt : (r b : ℕ) → byte_in r b < 65536
unfolding byte_in bits_in
byte_in-lt r b = bit_in-lt _

pub reg_of_lt : (r : ℕ) (bs : List ℕ) → r < 65536 → reg_of r bs < 65536
unfolding reg_of
reg_of_lt r [] h = h
reg_of_lt r (b ∷ bs) h = reg_of_lt (byte_in r b) bs (byte_in-lt r b)

pub share_of_lt : (x k : ℕ) → share_of x k < 65536
unfolding share_of
share_of_lt x k = reg_of_lt 0 (x ∷ replicate k 0) (omega arith)

pub check_of-lt : (bs : List ℕ) → check_of bs < 65536
unfolding check_of
check_of-lt bs = xor_lt 16 (reg_of 0 bs) 0xFFFF (reg_of_lt 0 bs (omega arith)) (omega arith)
