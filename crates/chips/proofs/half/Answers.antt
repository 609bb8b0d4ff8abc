-- Behind the end all chips are 0; near it the first 32 of the window's chips; before it four bytes.
use mathlib.Core.Path.{◌∙◌, ap, sym}
use Prim.Native.Nat.{ℕ, ◌*◌, ◌/◌}
use native.Mathlib.Omega.{arith}
use Rattle.chips.proofs.WindowLaws.{word_at_behind, word_at_high}
use Rattle.chips.proofs.half.Goals as goal

pub returns-then-s-q : goal.returns-then-s-q
returns-then-s-q c = sym (word_at_behind c.args.s.now (8 * c.args.q) 32 (omega arith))

pub returns-then-s-q-lt4 : goal.returns-then-s-q-lt4
returns-then-s-q-lt4 c =
    let at = c.args in
    ap (λ (x : ℕ). x / 4294967296) c.last.ensures ∙ word_at_high at.s.now at.q
