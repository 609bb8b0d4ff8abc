-- A block and its check as one number that is divided by the polynomial.
--     left_alone      the bits of a byte leave that byte
--     left_bytes      the register of the check after bytes is sixteen steps behind what their digits leave
--     block_left      all right blocks leave the same
--     unseen_left     so the pattern between two right blocks leaves 0
--     zeros_same      bytes between which no bit differs are the same; zeros_first: and begin alike
-- Assumes nothing.
use mathlib.Core.Bool.{Bool, true}
use mathlib.Core.List.{List, [], ◌∷◌, ◌++◌}
use mathlib.Core.Path.{◌≡◌, refl, sym, ap, ap₂, ◌∙◌, subst}
use Prim.Native.Nat.{ℕ, suc, ◌+◌, ◌≤◌, ◌<◌}
use native.Mathlib.Omega.{arith}
use lib.Bits.{bit_xor, xor_zero_r, xor_self, xor_comm}
use lib.Dec.{eqb, eqb→eq}
use lib.ListN.{length, take, get_or}
use lib.Seq.{length-take-le}
use Rattle.ground.specs.Bytes.{Bytes}
use Rattle.ground.specs.Sums.{xors}
use Rattle.ground.proofs.ByteLaws.{bytes_take}
use Rattle.ground.proofs.TableLaws.{all_below_at}
use Rattle.ground.proofs.SumLaws.{cons, xors-append}
use Rattle.ground.proofs.XorLaws.{xor_cancel, xor_equal}
use Rattle.crc.specs.Check.{bit_in, bits_in, reg_of, check_of}
use Rattle.crc.proofs.CheckLaws.{bits_in-xor, reg_of_append, reg_of_added}
use Rattle.crc.proofs.RemainderLaws.{bits_in-zero, bits_in-add}
use Rattle.crc.proofs.WordLaws.{byte_in_parts}
use Rattle.crc.proofs.BackwardLaws.{pair_of, reg_of_zeros, reg_of_pair}
use Rattle.blocks.specs.Spans.{sealed, block_ok}
use Rattle.blocks.proofs.SealLaws.{sealed-take}
use Rattle.patterns.proofs.Patterns.{left, Zeros}
use Rattle.patterns.proofs.RegisterLaws.{left-append, left-xor, left_added, left_lt, bits_in_same}
use Rattle.patterns.proofs.ZerosLaws.{zeros_front, zeros_back, left_zeros}
use Rattle.damage.specs.Damage.{bits_of}
use Rattle.damage.proofs.BitsLaws.{byte_bits, pattern, length_bits_of, bits_digits}

-- ---- bytes

-- of each of the 256 bytes, as antt works it out
alone : ℕ → Bool
alone b = eqb (left 0 (byte_bits b)) b

pub left_alone : (b : ℕ) → b < 256 → left 0 (byte_bits b) ≡ b
unfolding alone left bit_in
left_alone b h = eqb→eq (left 0 (byte_bits b)) b (all_below_at alone 256 tt b h)

left_byte : (r b : ℕ) → b < 256 → left r (byte_bits b) ≡ bit_xor (bits_in 8 r) b
left_byte r b h =
    left_added r (byte_bits b) ∙ ap₂ (λ (n w : ℕ). bit_xor (bits_in n r) w) refl (left_alone b h)

pub left_bytes : (r : ℕ) (s : List ℕ) → Bytes s → reg_of (bits_in 16 r) s ≡ bits_in 16 (left r (bits_of s))
unfolding reg_of bits_of left
left_bytes r [] bytes = refl
left_bytes r (b ∷ s) bytes =
    ap (λ (w : ℕ). reg_of w s)
    (byte_in_parts (bits_in 16 r) b (bytes 0)
    ∙ ap (λ (w : ℕ). bit_xor w (bits_in 16 b)) (bits_in-add 8 16 r ∙ sym (bits_in-add 16 8 r))
    ∙ sym (bits_in-xor 16 (bits_in 8 r) b)
    ∙ ap (bits_in 16) (sym (left_byte r b (bytes 0))))
    ∙ left_bytes (left r (byte_bits b)) s (λ j. bytes (suc j))
    ∙ ap (bits_in 16) (sym (left-append r (byte_bits b) (bits_of s)))

-- ---- right blocks

-- a register, and two bytes behind it
reg_of_behind : (r w : ℕ) → reg_of r (pair_of w) ≡ bits_in 16 (bit_xor w r)
reg_of_behind r w =
    ap (λ (v : ℕ). reg_of v (pair_of w)) (sym (xor_zero_r r) ∙ xor_comm r 0) ∙ reg_of_added 0 r (pair_of w)
    ∙ ap₂ bit_xor (reg_of_pair w) (reg_of_zeros 2 r) ∙ sym (bits_in-xor 16 w r)

pub sealed_left : (q : List ℕ) → reg_of 0 (sealed q) ≡ bits_in 16 0xFFFF
unfolding sealed check_of
sealed_left q =
    reg_of_append 0 q (pair_of (check_of q)) ∙ reg_of_behind (reg_of 0 q) (check_of q)
    ∙ ap (bits_in 16) (xor_comm (check_of q) (reg_of 0 q) ∙ xor_cancel (reg_of 0 q) 0xFFFF)

pub block_left :
    (k : ℕ) (s : List ℕ) → block_ok k s ≡ true → k + 2 ≤ length s → reg_of 0 (take (k + 2) s) ≡ bits_in 16 0xFFFF
block_left k s ok fits = ap (reg_of 0) (sym (sealed-take k s ok fits)) ∙ sealed_left (take k s)

block_digits :
    (k : ℕ) (s : List ℕ) → Bytes s → k + 2 ≤ length s → block_ok k s ≡ true
    → bits_in 16 (left 0 (bits_of (take (k + 2) s))) ≡ bits_in 16 0xFFFF
block_digits k s bytes fits ok =
    sym (left_bytes 0 (take (k + 2) s) (bytes_take (k + 2) s bytes))
    ∙ ap (λ (r : ℕ). reg_of r (take (k + 2) s)) (bits_in-zero 16) ∙ block_left k s ok fits

-- the pattern between two right blocks
pub unseen_left :
    (k : ℕ) (s t : List ℕ) → Bytes s → Bytes t → k + 2 ≤ length s → k + 2 ≤ length t
    → block_ok k s ≡ true → block_ok k t ≡ true → left 0 (pattern (take (k + 2) s) (take (k + 2) t)) ≡ 0
unseen_left k s t bs bt fs ft ok ok' =
    let u = take (k + 2) s in
    let v = take (k + 2) t in
    let count : length (bits_of u) ≡ length (bits_of v) =
    omega (arith, length_bits_of u, length_bits_of v, length-take-le (k + 2) s fs, length-take-le (k + 2) t ft) in
    let same : left 0 (bits_of u) ≡ left 0 (bits_of v) =
    bits_in_same 16 (left 0 (bits_of u)) (left 0 (bits_of v)) (left_lt 0 (bits_of u) (omega arith) (bits_digits u))
    (left_lt 0 (bits_of v) (omega arith) (bits_digits v))
    (block_digits k s bs fs ok ∙ sym (block_digits k t bt ft ok')) in
    left-xor 0 0 (bits_of u) (bits_of v) count ∙ ap (λ (w : ℕ). bit_xor w (left 0 (bits_of v))) same
    ∙ xor_self (left 0 (bits_of v))

-- ---- a pattern of zeros

zeros_byte : (b c : ℕ) → b < 256 → c < 256 → Zeros (xors (byte_bits b) (byte_bits c)) → b ≡ c
unfolding bit_in
zeros_byte b c hb hc z =
    xor_equal b c
    (sym (ap₂ bit_xor (left_alone b hb) (left_alone c hc))
    ∙ sym (left-xor 0 0 (byte_bits b) (byte_bits c) refl)
    ∙ left_zeros (xors (byte_bits b) (byte_bits c)) z)

pub zeros_same : (s t : List ℕ) → Bytes s → Bytes t → length t ≡ length s → Zeros (pattern s t) → s ≡ t
unfolding bits_of
zeros_same [] [] bs bt count z = refl
zeros_same [] (c ∷ t) bs bt count z = absurd (omega arith)
zeros_same (b ∷ s) [] bs bt count z = absurd (omega arith)
zeros_same (b ∷ s) (c ∷ t) bs bt count z =
    let first = xors (byte_bits b) (byte_bits c) in
    let cut = xors-append (byte_bits b) (bits_of s) (byte_bits c) (bits_of t) refl in
    let all : Zeros (first ++ pattern s t) = subst Zeros cut z in
    cons (zeros_byte b c (bs 0) (bt 0) (zeros_front first (pattern s t) all))
    (zeros_same s t (λ j. bs (suc j)) (λ j. bt (suc j)) (omega arith) (zeros_back first (pattern s t) all))

pub zeros_first :
    (s t : List ℕ) → Bytes s → Bytes t → length t ≡ length s → Zeros (pattern s t) → get_or t 0 0 ≡ get_or s 0 0
zeros_first s t bs bt count z = ap (λ (x : List ℕ). get_or x 0 0) (sym (zeros_same s t bs bt count z))
