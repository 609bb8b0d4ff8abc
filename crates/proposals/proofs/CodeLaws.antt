-- The test of a code word.
--     is_code_block_code, code-is_code_block    it passes exactly where the block is 0 at each of the roots
--     not_code_block_not                 and fails where it is not
--     code_checks, checks_code    a word of bytes with 32 bytes behind it is a code word exactly where they are its
--                                 check bytes: so a program may work these out and compare
-- Assumes nothing.
use mathlib.Core.Bool.{true, false, false≢true}
use mathlib.Core.List.{List, ◌++◌}
use mathlib.Core.Logic.{⊎_elim}
use mathlib.Core.Path.{◌≡◌, refl, sym, ap, subst, ◌∙◌}
use Prim.Native.Nat.{ℕ, zero, suc, ◌<◌, ◌-◌}
use native.Mathlib.Nat.{le_of_suc-le-suc, not-suc-le-zero, eq-or-lt_of_le}
use native.Mathlib.Omega.{arith}
use borrow.Author.Tests.{eqb-true, eq-eqb}
use lib.Dec.{eqb}
use lib.ListN.{length}
use Rattle.ground.specs.Bytes.{Bytes}
use Rattle.ground.proofs.CaseLaws.{and_left, and_right}
use Rattle.field.specs.Polynomials.{value_at}
use Rattle.codewords.specs.CodeBlocks.{root, CodeBlock}
use Rattle.codewords.specs.CheckBytes.{checks_of}
use Rattle.codewords.proofs.DivisionLaws as division
use Rattle.codewords.proofs.FillLaws.{fill_code}
use Rattle.codewords.proofs.UniqueLaws.{corrects_only}
use Rattle.proposals.specs.Near.{all_zero, is_code_block}

all_zero_at : (n : ℕ) (b : List ℕ) → all_zero n b ≡ true → (k : ℕ) → k < n → value_at (root k) b ≡ 0
unfolding all_zero
all_zero_at zero b t k h = absurd (not-suc-le-zero h)
all_zero_at (suc n) b t k h =
    ⊎_elim
    (λ e. ap (λ (j : ℕ). value_at (root j) b) e ∙ eqb-true (value_at (root n) b) 0 (and_left _ (all_zero n b) t))
    (λ l. all_zero_at n b (and_right (eqb (value_at (root n) b) 0) (all_zero n b) t) k l)
    (eq-or-lt_of_le (le_of_suc-le-suc h))

at-all_zero : (n : ℕ) (b : List ℕ) → ((k : ℕ) → k < n → value_at (root k) b ≡ 0) → all_zero n b ≡ true
unfolding all_zero
at-all_zero zero b z = refl
at-all_zero (suc n) b z =
    rw (eq-eqb (value_at (root n) b) 0 (z n (omega arith))) (at-all_zero n b (λ k h. z k (omega arith)))

pub is_code_block_code : (b : List ℕ) → is_code_block b ≡ true → CodeBlock b
is_code_block_code b t = all_zero_at 32 b t

pub code-is_code_block : (b : List ℕ) → CodeBlock b → is_code_block b ≡ true
code-is_code_block b z = at-all_zero 32 b z

pub not_code_block_not : (b : List ℕ) → is_code_block b ≡ false → CodeBlock b → ⊥
not_code_block_not b f z = false≢true (sym f ∙ code-is_code_block b z)

-- ---- by check bytes

pub checks_code : (w : List ℕ) {c : List ℕ} → Bytes w → c ≡ checks_of w → CodeBlock (w ++ c)
checks_code w b e = subst (λ (d : List ℕ). CodeBlock (w ++ d)) (sym e) (division.checks_code w b)

pub code_checks : (w : List ℕ) {c : List ℕ} → Bytes w → Bytes c → length c ≡ 32 → CodeBlock (w ++ c) → c ≡ checks_of w
code_checks w {c} bw bc e code =
    corrects_only w c bw
    (record { count = e; bytes = bc; code_word = (fill_code (223 - length w) (w ++ c)).1 code })
