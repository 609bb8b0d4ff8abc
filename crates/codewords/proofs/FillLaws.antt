-- Zero fill in front of a word changes nothing.
--     fill_code      with the fill and without it a block is a code word or is none
--     fill_checks    and the check bytes are the same
-- Assumes nothing.
use mathlib.Core.Logic.{◌↔◌}
use mathlib.Core.Path.{◌≡◌, refl, sym, ◌∙◌}
use mathlib.Core.List.{List, ◌++◌}
use Prim.Native.Nat.{ℕ, zero, suc}
use lib.ListN.{replicate}
use Rattle.field.proofs.PolynomialLaws.{zeros_front}
use Rattle.codewords.specs.CodeBlocks.{root, CodeBlock}
use Rattle.codewords.specs.CheckBytes.{checks_of}
use Rattle.codewords.proofs.StepLaws.{zero_first}

pub fill_code : (n : ℕ) (b : List ℕ) → CodeBlock (replicate n 0 ++ b) ↔ CodeBlock b
fill_code n b =
    (λ code k h. sym (zeros_front (root k) n b) ∙ code k h, λ code k h. zeros_front (root k) n b ∙ code k h)

pub fill_checks : (n : ℕ) (w : List ℕ) → checks_of (replicate n 0 ++ w) ≡ checks_of w
fill_checks zero w = refl
fill_checks (suc n) w = zero_first (replicate n 0 ++ w) ∙ fill_checks n w
