-- Contracts of this crate that are no equations allow one result all the same.
--     tables_settled    two pairs of tables that are right are one
--     ratio_settled     at most one element times b is a
-- Assumes nothing.
use Rattle.std.proofs.Common.{List, ◌≡◌, sym, ap, ◌∙◌, ℕ, zero, suc, ◌<◌, arith, ltb-true, ltb-false, bit_xor, ltb}
use Rattle.std.proofs.Common.{get_or, ext_get_or}
use lib.Bits.{xor_lt, xor_self}
use Rattle.ground.proofs.CaseLaws.{by_test}
use Rattle.ground.proofs.XorLaws.{xor_equal}
use Rattle.field.specs.Field.{mul}
use Rattle.field.proofs.FieldLaws.{mul-xor_l}
use Rattle.field.proofs.PrimitiveLaws.{mul_cancel}
use Rattle.products.specs.Tables.{TablesOk}
use Rattle.products.proofs.TableLaws.{log_is}

module _ {p q l m : List ℕ} (ok : TablesOk p l) (too : TablesOk q m) where
  same_power : (k : ℕ) → get_or p k 0 ≡ get_or q k 0
  same_power k =
      by_test (ltb k 511) (λ t. let low = ltb-true k 511 t in ok.power k low ∙ sym (too.power k low))
      (λ t. let high = ltb-false k 511 t in ok.none k high ∙ sym (too.none k high))

  same_log : (a : ℕ) → a < 256 → get_or l a 0 ≡ get_or m a 0
  same_log zero h = ok.log_zero ∙ sym too.log_zero
  same_log (suc a) h = log_is ok (suc a) (omega arith) h ∙ sym (log_is too (suc a) (omega arith) h)

  pub tables_settled : (p ≡ q) × (l ≡ m)
  tables_settled = (
    ext_get_or 0 p q (ok.count ∙ sym too.count) (λ k h. same_power k),
    ext_get_or 0 l m (ok.logs_count ∙ sym too.logs_count) (λ a h. same_log a (omega (arith, ok.logs_count))),
  )

pub ratio_settled :
    (a b r s : ℕ) → r < 256 → s < 256 → 0 < b → b < 256 → mul r b ≡ a → mul s b ≡ a → r ≡ s
ratio_settled a b r s hr hs pos hb er es =
    xor_equal r s
    (mul_cancel (bit_xor r s) b (xor_lt 8 r s hr hs) hb pos
    (mul-xor_l r s b ∙ ap (bit_xor (mul r b)) (es ∙ sym er) ∙ xor_self (mul r b)))
