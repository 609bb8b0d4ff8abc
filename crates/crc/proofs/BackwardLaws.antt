-- A register can be run backwards, so every check is that of a span with the byte that one wants at the place that one
-- wants. Hence 01's words on the update alone, `Mends`, leave one answer only.
--     bit_out, bits_out     the steps back: bit_in-bit_out, bits_in-bits_out
--     reg_of_zeros         zero bytes are steps of the register
--     reg_of_pair          two bytes are their sixteen bits, moved on
--     Span c old k        a span of bytes that has the check c and the byte `old` with k bytes behind it
--     span_of             there is one for every check of sixteen bits, every byte and every distance
--     mends-settled       two answers that mend coincide
--     mends_only          so what mends is the definition's answer, and the contract says no more than 01 does
-- Assumes nothing.
use mathlib.Core.Bool.{Bool}
use mathlib.Core.Path.{◌≡◌, refl, sym, ap, ap₂, ◌∙◌}
use mathlib.Core.List.{List, [], ◌∷◌, ◌++◌}
use Prim.Native.Nat.{ℕ, zero, suc, ◌+◌, ◌*◌, ◌/◌, ◌%◌, ◌<◌, ◌≤◌}
use native.Mathlib.Nat.{zero-add}
use native.Mathlib.Omega.{arith}
use lib.Bits.{bit_xor, xor_lt, xor_shifted, xor_zero_r}
use lib.Dec.{eqb, eqb→eq}
use lib.ListN.{length, get_or, replicate, length-replicate}
use Rattle.std.specs.Prelude.{Result}
use Rattle.answers.proofs.Settled.{settled}
use Rattle.ground.proofs.XorLaws.{xor_odd, xor_cancel_r}
use Rattle.ground.proofs.TableLaws.{all_below_at}
use Rattle.answers.specs.declared.Refusal.{Refusal}
use Rattle.crc.specs.Check.{bit_in, bits_in, byte_in, reg_of, check_of}
use Rattle.crc.specs.CheckUpdate.{share_of, farthest, updating, Mends}
use Rattle.crc.proofs.UpdateLaws.{updating_mends}
use Rattle.crc.proofs.CheckLaws.{bit_in_high, bit_in_low, bits_in-xor, reg_of_append, share_of_lt, reg_of_changed}

-- ---- the register backwards: a register is odd exactly when the polynomial was added last

unfoldable pub bit_out : ℕ → ℕ
bit_out r = bit_xor r (r % 2 * 0x3D65) / 2 + r % 2 * 32768

bit_in_even : (r : ℕ) → r < 65536 → r % 2 ≡ 0 → bit_in (r / 2 + 0) ≡ r
bit_in_even r h even =
    let same : (r / 2 + 0) * 2 % 65536 ≡ r = omega arith in
    sym (bit_in_low (r / 2 + 0) (omega arith)) ∙ same

bit_in_odd : (r : ℕ) → r < 65536 → r % 2 ≡ 1 → bit_in (bit_xor r 0x3D65 / 2 + 32768) ≡ r
bit_in_odd r h odd =
    let s = bit_xor r 0x3D65 in
    let small : s < 65536 = xor_lt 16 r 0x3D65 h (omega arith) in
    let sum : s % 2 ≡ (r + 0x3D65) % 2 = xor_odd r 0x3D65 in
    let even : s % 2 ≡ 0 = omega arith in
    let same : (s / 2 + 32768) * 2 % 65536 ≡ s = omega arith in
    sym (bit_in_high (s / 2 + 32768) (omega arith) (omega arith))
    ∙ ap (λ (v : ℕ). bit_xor v 0x3D65) same ∙ xor_cancel_r r 0x3D65

bit_in_back : (r t : ℕ) → r < 65536 → r % 2 ≡ t → t < 2 → bit_in (bit_xor r (t * 0x3D65) / 2 + t * 32768) ≡ r
bit_in_back r zero h e ht = rw (xor_zero_r r) (bit_in_even r h e)
bit_in_back r (suc zero) h e ht = bit_in_odd r h e
bit_in_back r (suc (suc t)) h e ht = absurd (omega arith)

pub bit_in-bit_out : (r : ℕ) → r < 65536 → bit_in (bit_out r) ≡ r
unfolding bit_out
bit_in-bit_out r h = bit_in_back r (r % 2) h refl (omega arith)

bit_out-lt : (r : ℕ) → r < 65536 → bit_out r < 65536
unfolding bit_out
bit_out-lt r h =
    let small : bit_xor r (r % 2 * 0x3D65) < 65536 = xor_lt 16 r (r % 2 * 0x3D65) h (omega arith) in
    omega arith

unfoldable pub bits_out : ℕ → ℕ → ℕ
bits_out zero r = r
bits_out (suc n) r = bit_out (bits_out n r)

pub bits_out-lt : (n r : ℕ) → r < 65536 → bits_out n r < 65536
unfolding bits_out
bits_out-lt zero r h = h
bits_out-lt (suc n) r h = bit_out-lt (bits_out n r) (bits_out-lt n r h)

pub bits_in-bits_out : (n r : ℕ) → r < 65536 → bits_in n (bits_out n r) ≡ r
unfolding bits_in bits_out
bits_in-bits_out zero r h = refl
bits_in-bits_out (suc n) r h =
    ap (bits_in n) (bit_in-bit_out (bits_out n r) (bits_out-lt n r h)) ∙ bits_in-bits_out n r h

-- ---- two bytes and zeros behind them are their sixteen bits, moved on

bits_in-add : (m n r : ℕ) → bits_in n (bits_in m r) ≡ bits_in (m + n) r
unfolding bits_in
bits_in-add zero n r = ap (λ (j : ℕ). bits_in j r) (sym (zero-add n))
bits_in-add (suc m) n r =
    let e : suc (m + n) ≡ suc m + n = omega arith in
    bits_in-add m n (bit_in r) ∙ ap (λ (j : ℕ). bits_in j r) e

pub reg_of_zeros : (k r : ℕ) → reg_of r (replicate k 0) ≡ bits_in (k * 8) r
unfolding reg_of byte_in bits_in
reg_of_zeros zero r = refl
reg_of_zeros (suc k) r =
    let e : 8 + k * 8 ≡ suc k * 8 = omega arith in
    ap (λ (v : ℕ). reg_of (bits_in 8 v) (replicate k 0)) (xor_zero_r r) ∙ reg_of_zeros k (bits_in 8 r)
    ∙ bits_in-add 8 (k * 8) r ∙ ap (λ (j : ℕ). bits_in j r) e

-- for each of the 256 bytes, as antt works them out
lifted : ℕ → Bool
lifted b = eqb (bits_in 8 b) (b * 256)

bits_in_byte : (b : ℕ) → b < 256 → bits_in 8 b ≡ b * 256
unfolding lifted bits_in bit_in
bits_in_byte b h = eqb→eq (bits_in 8 b) (b * 256) (all_below_at lifted 256 tt b h)

-- sixteen bits as two bytes
abbrev pub pair_of : ℕ → List ℕ
pair_of w = w / 256 ∷ w % 256 ∷ []

pub reg_of_pair : (w : ℕ) → reg_of 0 (pair_of w) ≡ bits_in 16 w
unfolding reg_of byte_in
reg_of_pair w =
    let a = w / 256 in
    let b = w % 256 in
    let whole : a * 256 + b ≡ w = omega arith in
    ap (λ (v : ℕ). bits_in 8 (bit_xor (bits_in 8 (a * 256)) v)) (sym (bits_in_byte b (omega arith)))
    ∙ ap (bits_in 8) (sym (bits_in-xor 8 (a * 256) b))
    ∙ bits_in-add 8 8 (bit_xor (a * 256) b)
    ∙ ap (bits_in 16) (xor_shifted a 8 b (omega arith) ∙ whole)

-- ---- a span for every check

pub record Span (c old k : ℕ) : Type 0 where
  pub pre : List ℕ
  pub post : List ℕ
  pub bytes : (j : ℕ) → get_or (pre ++ post) j 0 < 256
  pub size : length post ≡ k
  pub is : check_of (pre ++ (old ∷ post)) ≡ c

zeros-lt : (k j : ℕ) → get_or (replicate k 0) j 0 < 256
zeros-lt zero j = omega arith
zeros-lt (suc k) zero = omega arith
zeros-lt (suc k) (suc j) = zeros-lt k j

pair_lt : (w k j : ℕ) → w < 65536 → get_or (pair_of w ++ replicate k 0) j 0 < 256
pair_lt w k zero h = omega arith
pair_lt w k (suc zero) h = omega arith
pair_lt w k (suc (suc j)) h = zeros-lt k j

reg_of_pair_zeros : (w k : ℕ) → reg_of 0 (pair_of w ++ (0 ∷ replicate k 0)) ≡ bits_in (16 + suc k * 8) w
reg_of_pair_zeros w k =
    reg_of_append 0 (pair_of w) (replicate (suc k) 0) ∙ reg_of_zeros (suc k) (reg_of 0 (pair_of w))
    ∙ ap (bits_in (suc k * 8)) (reg_of_pair w) ∙ bits_in-add 16 (suc k * 8) w

reg_of_pair_byte : (w old k : ℕ)
    → reg_of 0 (pair_of w ++ (old ∷ replicate k 0)) ≡ bit_xor (bits_in (16 + suc k * 8) w) (share_of old k)
reg_of_pair_byte w old k =
    reg_of_changed 0 0 old (pair_of w) (replicate k 0)
    ∙ ap₂ (λ (x n : ℕ). bit_xor x (share_of old n)) (reg_of_pair_zeros w k) (length-replicate k 0)

-- `bits` are those of the two bytes in front that lead to the check c
module _ (c old k : ℕ) (h : c < 65536) where
  abbrev wanted : ℕ
  wanted = bit_xor (bit_xor c 0xFFFF) (share_of old k)

  wanted-lt : wanted < 65536
  wanted-lt = xor_lt 16 (bit_xor c 0xFFFF) (share_of old k) (xor_lt 16 c 0xFFFF h (omega arith)) (share_of_lt old k)

  abbrev bits : ℕ
  bits = bits_out (16 + suc k * 8) wanted

  check_of_span : check_of (pair_of bits ++ (old ∷ replicate k 0)) ≡ c
  unfolding check_of
  check_of_span =
      ap (λ (v : ℕ). bit_xor v 0xFFFF)
      (reg_of_pair_byte bits old k
      ∙ ap (λ (v : ℕ). bit_xor v (share_of old k)) (bits_in-bits_out (16 + suc k * 8) wanted wanted-lt)
      ∙ xor_cancel_r (bit_xor c 0xFFFF) (share_of old k))
      ∙ xor_cancel_r c 0xFFFF

  pub span_of : Span c old k
  span_of =
      record {
        pre = pair_of bits;
        post = replicate k 0;
        bytes = λ j. pair_lt bits k j (bits_out-lt (16 + suc k * 8) wanted wanted-lt);
        size = length-replicate k 0;
        is = check_of_span;
      }

pub mends-settled :
    (c old new k : ℕ) (r s : Result ℕ Refusal) → c < 65536 → Mends c old new k r → Mends c old new k s → r ≡ s
mends-settled c old new k r s h p q =
    let x = span_of c old k h in
    settled (p x.pre x.post x.size x.is) (q x.pre x.post x.size x.is)

pub mends_only :
    (c old new k : ℕ) (r : Result ℕ Refusal) → c < 65536 → k ≤ farthest → Mends c old new k r → r ≡ updating c old new k
mends_only c old new k r h near p =
    mends-settled c old new k r (updating c old new k) h p (updating_mends c old new k near)
