-- Behind the end all chips are 0; before it twice 32 chips make 64.
use mathlib.Core.Path.{sym}
use Prim.Native.Nat.{◌*◌}
use native.Mathlib.Omega.{arith}
use Rattle.chips.proofs.WindowLaws.{word_at_behind, word_at_halves}
use Rattle.chips.proofs.window.Goals as goal

pub returns-then-s-q : goal.returns-then-s-q
returns-then-s-q c = sym (word_at_behind c.args.s.now (8 * c.args.q) 64 (omega arith))

pub returns : goal.returns
returns c =
    let at = c.args in
    omega (arith, word_at_halves at.s.now at.q)
