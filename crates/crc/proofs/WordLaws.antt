-- Laws of words of bytes in the register: what lets a check take many bytes at once.
--     byte-shifted       a byte in the register's upper half
--     byte_in_parts       a byte's step is eight steps and the byte's own part
--     word_byte          a number's part, and that of the number with one more byte behind it
--     remainder_parts    a word by its upper digits and its lower j
--     adds_byte          one byte of a list
--     adds_none          no byte
--     adds_then          bytes behind bytes
--     number_lt          a number of bytes has eight digits for each
--     adds_number        a number of bytes with one more byte behind it
--     adds_word          a word of four bytes
--     adds_start         the bytes from the start on
--     adds_two, adds_four, adds_only   two words of four bytes; two more behind others; two that are all
--     group_behind       sixteen bytes behind a word
--     adds_all, adds_front, adds_taken    all bytes of a list, bytes in front of others, the first k
--     lead_behind, group_append    what stands before the groups; one turn of the loop over them
-- Assumes nothing.
use mathlib.Core.Path.{◌≡◌, sym, ap, ap₂, ◌∙◌}
use mathlib.Core.List.{List, [], ◌++◌}
use Prim.Native.Nat.{ℕ, ◌+◌, ◌*◌, ◌-◌, ◌/◌, ◌%◌, ◌^◌, ◌<◌, ◌≤◌}
use native.Mathlib.Nat.{zero-add, add-zero, add_assoc, mod-lt}
use native.Mathlib.Omega.{arith}
use lib.Bits.{bit_xor, xor_comm, xor_zero_r, xor_shifted}
use lib.ListN.{length, take, drop, get_or, drop_of_length-le, take-append-drop}
use lib.Seq.{drop_at, length-take-le}
use lib.Pow.{shr_lt, split, pow_pos, pow-add}
use Rattle.ground.proofs.XorLaws.{xor_assoc}
use Rattle.crc.specs.Check.{bits_in, byte_in, reg_of}
use Rattle.crc.specs.Inner.{remainder, Adds}
use Rattle.crc.proofs.CheckLaws.{bits_in-xor, reg_of_append, reg_of_drop}
use Rattle.crc.proofs.RemainderLaws.{bits_in-zero, bits_in-add, rem_of-xor, remainder-shifted, remainder_small}

-- ---- bytes and numbers

-- eight steps of a byte move it to the register's upper half
pub byte-shifted : (b : ℕ) → b < 256 → b * 256 ≡ bits_in 8 b
byte-shifted b h =
    sym (remainder_small (b * 256) (omega arith)) ∙ remainder-shifted 8 8 b h (omega arith)
    ∙ ap (bits_in 8) (remainder_small b (omega arith))

pub byte_in_parts : (r b : ℕ) → b < 256 → byte_in r b ≡ bit_xor (bits_in 8 r) (bits_in 16 b)
unfolding byte_in
byte_in_parts r b h =
    bits_in-xor 8 r (b * 256)
    ∙ ap (λ (x : ℕ). bit_xor (bits_in 8 r) x) (ap (bits_in 8) (byte-shifted b h) ∙ bits_in-add 8 8 b)

remainder_byte : (w b : ℕ) → w < 2 ^ 56 → b < 256 → remainder (w * 256 + b) ≡ bit_xor (bits_in 8 (remainder w)) b
remainder_byte w b hw hb =
    ap remainder (sym (xor_shifted w 8 b hb)) ∙ rem_of-xor 64 (w * 256) b
    ∙ ap₂ bit_xor (remainder-shifted 8 56 w hw (omega arith)) (remainder_small b (omega arith))

pub word_byte : (w b : ℕ) → w < 2 ^ 56 → b < 256
    → byte_in (bits_in 16 (remainder w)) b ≡ bits_in 16 (remainder (w * 256 + b))
word_byte w b hw hb =
    byte_in_parts (bits_in 16 (remainder w)) b hb
    ∙ ap (λ (x : ℕ). bit_xor x (bits_in 16 b))
    (bits_in-add 8 16 (remainder w) ∙ sym (bits_in-add 16 8 (remainder w)))
    ∙ sym (ap (bits_in 16) (remainder_byte w b hw hb) ∙ bits_in-xor 16 (bits_in 8 (remainder w)) b)

pub remainder_parts : (j w : ℕ) → j ≤ 64 → w < 2 ^ 64
    → remainder w ≡ bit_xor (bits_in j (remainder (w / 2 ^ j))) (remainder (w % 2 ^ j))
remainder_parts j w le h =
    let cut : 64 - j + j ≡ 64 = omega arith in
    let high : w / 2 ^ j < 2 ^ (64 - j) = shr_lt (64 - j) j (rw cut h) in
    ap remainder (sym (split w j) ∙ sym (xor_shifted (w / 2 ^ j) j (w % 2 ^ j) (mod-lt w (pow_pos j))))
    ∙ rem_of-xor 64 (w / 2 ^ j * 2 ^ j) (w % 2 ^ j)
    ∙ ap (λ (x : ℕ). bit_xor x (remainder (w % 2 ^ j))) (remainder-shifted j (64 - j) (w / 2 ^ j) high (omega arith))

-- ---- what bytes add to the register

pub adds_byte : (s : List ℕ) (at : ℕ) → at < length s → get_or s at 0 < 256 → Adds s at 1 (bits_in 16 (get_or s at 0))
adds_byte s at h byte r =
    sym (reg_of_drop s at r h) ∙ ap (λ (x : ℕ). reg_of x (drop (at + 1) s)) (byte_in_parts r (get_or s at 0) byte)

pub adds_none : (s : List ℕ) (at : ℕ) → Adds s at 0 (bits_in 16 (remainder 0))
unfolding bits_in
adds_none s at r =
    let none : bits_in 16 (remainder 0) ≡ 0 = ap (bits_in 16) (remainder_small 0 (omega arith)) ∙ bits_in-zero 16 in
    rw (none, xor_zero_r r, add-zero at)

pub adds_then : (s : List ℕ) (at j k z y : ℕ) → Adds s at j z → Adds s (at + j) k y
    → Adds s at (j + k) (bit_xor (bits_in (8 * k) z) y)
adds_then s at j k z y first then r =
    let steps : 8 * j + 8 * k ≡ 8 * (j + k) = omega arith in
    first r ∙ then (bit_xor (bits_in (8 * j) r) z)
    ∙ ap₂ (λ (x i : ℕ). reg_of x (drop i s))
    (ap (λ (x : ℕ). bit_xor x y)
    (bits_in-xor (8 * k) (bits_in (8 * j) r) z
    ∙ ap (λ (x : ℕ). bit_xor x (bits_in (8 * k) z)) (bits_in-add (8 * k) (8 * j) r ∙ ap (λ (n : ℕ). bits_in n r) steps))
    ∙ xor_assoc (bits_in (8 * (j + k)) r) (bits_in (8 * k) z) y)
    (add_assoc at j k)

pub number_lt : (w b i : ℕ) → w < 2 ^ (8 * i) → b < 256 → w * 256 + b < 2 ^ (8 * (i + 1))
number_lt w b i hw hb =
    let steps : 8 * (i + 1) ≡ 8 * i + 8 = omega arith in
    rw (steps, pow-add 2 (8 * i) 8) (omega arith)

pub adds_number : (s : List ℕ) (at k w : ℕ) → w < 2 ^ 56 → at + k < length s → get_or s (at + k) 0 < 256
    → Adds s at k (bits_in 16 (remainder w))
    → Adds s at (k + 1) (bits_in 16 (remainder (w * 256 + get_or s (at + k) 0)))
adds_number s at k w small inside byte before =
    let b = get_or s (at + k) 0 in
    let whole : bit_xor (bits_in 8 (bits_in 16 (remainder w))) (bits_in 16 b) ≡ bits_in 16 (remainder (w * 256 + b)) =
    sym (byte_in_parts (bits_in 16 (remainder w)) b byte) ∙ word_byte w b small byte in
    rw (← whole) (adds_then s at k 1 (bits_in 16 (remainder w)) (bits_in 16 b) before
    (adds_byte s (at + k) inside byte))

-- a word of four bytes
pub adds_word :
    (s : List ℕ) (at v : ℕ) → at + 4 ≤ length s → ((i : ℕ) → get_or s i 0 < 256)
    → v
    ≡ ((get_or s at 0 * 256 + get_or s (at + 1) 0) * 256 + get_or s (at + 2) 0) * 256 + get_or s (at + 3) 0
    → Adds s at 4 (bits_in 16 (remainder v))
adds_word s at v inside byte e =
    let b : ℕ → ℕ = λ i. get_or s (at + i) 0 in
    let lt : (i : ℕ) → b i < 256 = λ i. byte (at + i) in
    let w₁ = 0 * 256 + b 0 in
    let w₂ = w₁ * 256 + b 1 in
    let w₃ = w₂ * 256 + b 2 in
    let same : w₃ * 256 + b 3 ≡ v = omega (arith, ap (λ (i : ℕ). get_or s i 0) (add-zero at)) in
    rw (← same)
    (adds_number s at 3 w₃ (omega (arith, lt 0, lt 1, lt 2)) (omega arith) (lt 3)
    (adds_number s at 2 w₂ (omega (arith, lt 0, lt 1)) (omega arith) (lt 2)
    (adds_number s at 1 w₁ (omega (arith, lt 0)) (omega arith) (lt 1)
    (adds_number s at 0 0 (omega arith) (omega arith) (lt 0) (adds_none s at)))))

pub adds_start : (s : List ℕ) (k z : ℕ) → Adds s 0 k z → reg_of z (drop k s) ≡ reg_of 0 s
adds_start s k z adds =
    ap₂ (λ (x i : ℕ). reg_of x (drop i s)) (ap (λ (x : ℕ). bit_xor x z) (sym (bits_in-zero (8 * k)))) (sym (zero-add k))
    ∙ sym (adds 0)

-- a word by its halves, with the digits of the register behind it
halves_behind : (p q : ℕ) → bits_in 16 (bit_xor (bits_in 32 p) q) ≡ bit_xor (bits_in 48 p) (bits_in 16 q)
halves_behind p q =
    bits_in-xor 16 (bits_in 32 p) q ∙ ap (λ (x : ℕ). bit_xor x (bits_in 16 q)) (bits_in-add 16 32 p)

pub adds_two : (s : List ℕ) (at p q : ℕ) → Adds s at 4 (bits_in 16 p) → Adds s (at + 4) 4 (bits_in 16 q)
    → Adds s at 8 (bits_in 16 (bit_xor (bits_in 32 p) q))
adds_two s at p q first second =
    let sum : bit_xor (bits_in 32 (bits_in 16 p)) (bits_in 16 q) ≡ bits_in 16 (bit_xor (bits_in 32 p) q) =
    ap (λ (x : ℕ). bit_xor x (bits_in 16 q)) (bits_in-add 32 16 p) ∙ sym (halves_behind p q) in
    rw (← sum) (adds_then s at 4 4 (bits_in 16 p) (bits_in 16 q) first second)

-- two words behind what came before them: the sum that `crc::words::four` makes
pub adds_four : (s : List ℕ) (at k b c p q r t v : ℕ) → b ≡ at + k → c ≡ b + 4
    → Adds s at k (bits_in 16 (bit_xor (bits_in 32 p) q)) → Adds s b 4 (bits_in 16 r) → Adds s c 4 (bits_in 16 t)
    → v ≡ bit_xor (bit_xor (bit_xor (bits_in 112 p) (bits_in 80 q)) (bits_in 48 r)) (bits_in 16 t) → Adds s at (k + 8) v
adds_four s at k b c p q r t v e f before third fourth is =
    let x = bit_xor (bits_in 32 p) q in
    let moved : bits_in 64 (bits_in 16 x) ≡ bit_xor (bits_in 112 p) (bits_in 80 q) =
    bits_in-add 64 16 x ∙ bits_in-xor 80 (bits_in 32 p) q
    ∙ ap (λ (y : ℕ). bit_xor y (bits_in 80 q)) (bits_in-add 80 32 p) in
    let behind : bits_in 16 (bit_xor (bits_in 32 r) t) ≡ bit_xor (bits_in 48 r) (bits_in 16 t) = halves_behind r t in
    let both : Adds s (at + k) 8 (bits_in 16 (bit_xor (bits_in 32 r) t)) =
    rw (← e) (adds_two s b r t third (rw (← f) fourth)) in
    let sum : bit_xor (bits_in 64 (bits_in 16 x)) (bits_in 16 (bit_xor (bits_in 32 r) t)) ≡ v =
    ap₂ bit_xor moved behind
    ∙ sym (xor_assoc (bit_xor (bits_in 112 p) (bits_in 80 q)) (bits_in 48 r) (bits_in 16 t)) ∙ sym is in
    rw (← sum) (adds_then s at k 8 (bits_in 16 x) (bits_in 16 (bit_xor (bits_in 32 r) t)) before both)

-- the same where two words are all
pub adds_only : (s : List ℕ) (at k r t v : ℕ) → Adds s at k (bits_in 16 (bit_xor (bits_in 32 r) t))
    → v
    ≡ bit_xor
    (bit_xor (bit_xor (bits_in 112 (remainder 0)) (bits_in 80 (remainder 0))) (bits_in 48 r))
    (bits_in 16 t)
    → Adds s at k v
adds_only s at k r t v all is =
    let none : bit_xor (bits_in 112 (remainder 0)) (bits_in 80 (remainder 0)) ≡ 0 =
    ap (λ (x : ℕ). bit_xor (bits_in 112 x) (bits_in 80 x)) (remainder_small 0 (omega arith))
    ∙ ap₂ bit_xor (bits_in-zero 112) (bits_in-zero 80) in
    let sum : bits_in 16 (bit_xor (bits_in 32 r) t) ≡ v =
    halves_behind r t ∙ ap (λ (x : ℕ). bit_xor (bit_xor x (bits_in 48 r)) (bits_in 16 t)) (sym none) ∙ sym is in
    rw (← sum) all

pub group_behind : (s : List ℕ) (at v g w : ℕ) → Adds s at 16 (remainder g) → remainder w ≡ bits_in 128 (remainder v)
    → reg_of (remainder (bit_xor g w)) (drop (at + 16) s) ≡ reg_of (remainder v) (drop at s)
group_behind s at v g w group moved =
    ap (λ (x : ℕ). reg_of x (drop (at + 16) s))
    (rem_of-xor 64 g w ∙ xor_comm (remainder g) (remainder w) ∙ ap (λ (x : ℕ). bit_xor x (remainder g)) moved)
    ∙ sym (group (remainder v))

-- ---- the same where the bytes are a list of their own

-- the bytes of a list are all that there are
pub adds_all : (s : List ℕ) (k z : ℕ) → length s ≡ k → Adds s 0 k z → z ≡ reg_of 0 s
unfolding reg_of
adds_all s k z size adds =
    let end : drop k s ≡ [] = drop_of_length-le s {i = k} (omega arith) in
    rw end at (adds_start s k z adds)

-- bytes in front of others
pub adds_front : (x t : List ℕ) (k z : ℕ) → length x ≡ k → Adds x 0 k z → Adds (x ++ t) 0 k z
unfolding reg_of
adds_front x t k z size adds r =
    let none : 0 + k ≡ k = omega arith in
    let end : drop k x ≡ [] = drop_of_length-le x {i = k} (omega arith) in
    rw (none, drop_at x t k size)
    (reg_of_append r x t ∙ ap (λ (y : ℕ). reg_of y t) (rw (none, end) at (adds r)))

-- the first k bytes
pub adds_taken :
    (s : List ℕ) (k z : ℕ) → k ≤ length s → Adds (take k s) 0 (length (take k s)) z → Adds s 0 k z
adds_taken s k z fits adds =
    let size : length (take k s) ≡ k = length-take-le k s fits in
    rw (take-append-drop k s) at (adds_front (take k s) (drop k s) k z size (rw size at adds))

pub lead_behind : (x t : List ℕ) (k z : ℕ) → length x ≡ k → Adds x 0 k z → reg_of z t ≡ reg_of 0 (x ++ t)
lead_behind x t k z size adds =
    ap (λ (y : ℕ). reg_of y t) (adds_all x k z size adds) ∙ sym (reg_of_append 0 x t)

pub group_append : (x t : List ℕ) (v g w : ℕ) → length x ≡ 16 → Adds x 0 16 (remainder g)
    → remainder w ≡ bits_in 128 (remainder v) → reg_of (remainder (bit_xor g w)) t ≡ reg_of (remainder v) (x ++ t)
group_append x t v g w size group moved =
    rw (drop_at x t 16 size) at (group_behind (x ++ t) 0 v g w (adds_front x t 16 (remainder g) size group) moved)
