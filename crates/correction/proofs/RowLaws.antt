-- The table of the division.
--     rows_right      a table of 256 words is right if each of its rows is what the generator's numbers give: one test
--                     over all of them, which antt computes. No entry of the source is believed
--     checks_halves   the check bytes of two bytes are the sum of those of their four halves
--     rows_sum        so they are the sum of four rows, as the code adds them
-- Assumes nothing.
use mathlib.Core.Bool.{Bool}
use mathlib.Core.Path.{◌≡◌, refl, sym, ap, ap₂, ◌∙◌}
use mathlib.Core.List.{List, [], ◌∷◌}
use Prim.Native.Nat.{ℕ, ◌+◌, ◌*◌, ◌/◌, ◌%◌, ◌<◌}
use native.Mathlib.Nat.{zero-add}
use native.Mathlib.Omega.{arith}
use lib.Bits.{bit_xor, xor_shifted, xor_zero_r}
use lib.Dec.{T}
use lib.ListN.{replicate}
use Rattle.ground.specs.Sums.{xors}
use Rattle.ground.proofs.TableLaws.{all_below, all_below_at, passed}
use Rattle.address.specs.Names.{same_bytes}
use Rattle.address.proofs.NameLaws.{same_bytes_equal}
use Rattle.codewords.specs.CheckBytes.{rem_of, checks_of}
use Rattle.codewords.proofs.NumbersLaws.{numbers, checks_of-numbers}
use Rattle.codewords.proofs.StepLaws.{checks_of-xors}
use Rattle.correction.specs.declared.division.Remainder.{Remainder}
use Rattle.correction.specs.Inner.{bytes_of, row_at, half, RowsOk}

-- row h of the sixteen for halves k
unfoldable pub right : List (List ℕ) → ℕ → ℕ → Bool
right rows k h = same_bytes (bytes_of (row_at rows (16 * k + h))) (rem_of numbers (replicate 32 0) (half k h))

abbrev pub all_right : List (List ℕ) → Bool
all_right rows = all_below (λ k. all_below (right rows k) 16) 4

pub rows_right : (rows : List (List ℕ)) → T (all_right rows) → RowsOk rows
unfolding right
rows_right rows t =
    record {
      row = λ k h hk hh.
          same_bytes_equal (bytes_of (row_at rows (16 * k + h))) (rem_of numbers (replicate 32 0) (half k h))
          (passed _ (all_below_at (right rows k) 16 (all_below_at (λ j. all_below (right rows j) 16) 4 t k hk) h hh))
          ∙ sym (checks_of-numbers (half k h));
    }

-- ---- halves

whole : (p : ℕ) → bit_xor (p / 16 * 16) (p % 16) ≡ p
whole p = let e : p / 16 * 16 + p % 16 ≡ p = omega arith in xor_shifted (p / 16) 4 (p % 16) (omega arith) ∙ e

pub checks_halves : (p q : ℕ)
    → checks_of (p ∷ q ∷ [])
    ≡ xors (xors (checks_of (half 0 (p / 16))) (checks_of (half 1 (p % 16))))
    (xors (checks_of (half 2 (q / 16))) (checks_of (half 3 (q % 16))))
unfolding xors
checks_halves p q =
    ap₂ (λ (x y : ℕ). checks_of (x ∷ y ∷ [])) (sym (xor_zero_r _ ∙ whole p)) (sym (whole q))
    ∙ checks_of-xors (xors (half 0 (p / 16)) (half 1 (p % 16))) (xors (half 2 (q / 16)) (half 3 (q % 16))) refl
    ∙ ap₂ xors (checks_of-xors (half 0 (p / 16)) (half 1 (p % 16)) refl)
    (checks_of-xors (half 2 (q / 16)) (half 3 (q % 16)) refl)

-- ---- what the code sums up

module _ (rows : List (List ℕ)) (ok : RowsOk rows) (p q : ℕ) (hp : p < 256) (hq : q < 256) where
  row_half : (k h : ℕ) {r : Remainder} → k < 4 → h < 16 → r ≡ row_at rows (16 * k + h)
      → bytes_of r ≡ checks_of (half k h)
  row_half k h hk hh e = ap bytes_of e ∙ ok.row k h hk hh

  pub rows_sum : {a b c d : Remainder} {u v w : List ℕ}
      → a ≡ row_at rows (p / 16) → b ≡ row_at rows (16 + p % 16) → u ≡ xors (bytes_of a) (bytes_of b)
      → c ≡ row_at rows (32 + q / 16) → d ≡ row_at rows (48 + q % 16) → v ≡ xors (bytes_of c) (bytes_of d)
      → w ≡ xors u v → w ≡ checks_of (p ∷ q ∷ [])
  rows_sum ea eb eu ec ed ev e =
      let low = ap (row_at rows) (sym (zero-add (p / 16))) in
      e
      ∙ ap₂ xors
      (eu ∙ ap₂ xors (row_half 0 (p / 16) (omega arith) (omega arith) (ea ∙ low))
      (row_half 1 (p % 16) (omega arith) (omega arith) eb))
      (ev ∙ ap₂ xors (row_half 2 (q / 16) (omega arith) (omega arith) ec)
      (row_half 3 (q % 16) (omega arith) (omega arith) ed))
      ∙ sym (checks_halves p q)
