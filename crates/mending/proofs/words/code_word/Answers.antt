-- `mending::words::code_word` meets its contract. Assumes nothing.
use mathlib.Core.Path.{◌∙◌}
use native.Mathlib.Omega.{arith}
use Rattle.mending.proofs.WordLaws.{code_compared}
use Rattle.mending.proofs.words.code_word.Goals as goal

pub returns : goal.returns
returns c =
    code_compared c.args.w.now _ (λ j. omega (arith, c.type_inv.w j)) (omega arith)
    (c.as_slice.ensures ∙ c.checks.ensures) c.eq.ensures
