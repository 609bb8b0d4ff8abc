-- The check bytes are the only 32 bytes that make the filled block a code word. So nobody has to believe the division.
--     corrects_checks    they do
--     corrects_only      nothing else does
-- Assumes nothing.
use mathlib.Core.Path.{◌≡◌, sym, ap, ap₂, ◌∙◌}
use mathlib.Core.List.{List, ◌++◌}
use Prim.Native.Nat.{ℕ, ◌-◌}
use native.Mathlib.Omega.{arith}
use lib.Bits.{bit_xor, xor_self}
use lib.ListN.{length, replicate}
use Rattle.ground.specs.Bytes.{Bytes}
use Rattle.ground.specs.Sums.{xors}
use Rattle.ground.proofs.SumLaws.{length-xors, bytes-xors, xors_equal}
use Rattle.field.specs.Polynomials.{eval_from, value_at}
use Rattle.field.proofs.PolynomialLaws.{eval_append, eval_xors}
use Rattle.field.proofs.DistanceLaws.{vanish-all}
use Rattle.codewords.specs.CodeBlocks.{first_root, root, Corrects}
use Rattle.codewords.specs.CheckBytes.{checks_of}
use Rattle.codewords.proofs.DivisionLaws.{length-checks_of, bytes-checks_of, checks_code}
use Rattle.codewords.proofs.FillLaws.{fill_code}

pub corrects_checks : (w : List ℕ) → Bytes w → Corrects w (checks_of w)
corrects_checks w b =
    record {
      count = length-checks_of w;
      bytes = bytes-checks_of w b;
      code_word = (fill_code (223 - length w) (w ++ checks_of w)).1 (checks_code w b);
    }

-- where two words that begin alike are 0, so is the sum of what they end with
ends-zero : (r : ℕ) (w c d : List ℕ) → length c ≡ length d
    → value_at r (w ++ c) ≡ 0 → value_at r (w ++ d) ≡ 0 → value_at r (xors c d) ≡ 0
ends-zero r w c d e zc zd =
    let v = value_at r w in
    ap (λ (a : ℕ). eval_from r a (xors c d)) (sym (xor_self v)) ∙ eval_xors r v v c d e
    ∙ ap₂ bit_xor (sym (eval_append r 0 w c) ∙ zc) (sym (eval_append r 0 w d) ∙ zd)

pub corrects_only : (w c : List ℕ) → Bytes w → Corrects w c → c ≡ checks_of w
unfolding root
corrects_only w c b x =
    let d = checks_of w in
    let same : length c ≡ length d = x.count ∙ sym (length-checks_of w) in
    let size : length (xors c d) ≡ 32 = length-xors c d same ∙ x.count in
    let code = (fill_code (223 - length w) (w ++ c)).0 x.code_word in
    xors_equal c d same
    (vanish-all first_root (xors c d) (omega arith) (bytes-xors c d x.bytes (bytes-checks_of w b))
    (λ k h. ends-zero (root k) w c d same (code k h) (checks_code w b k h))
    ∙ ap (λ (n : ℕ). replicate n 0) (length-xors c d same))
