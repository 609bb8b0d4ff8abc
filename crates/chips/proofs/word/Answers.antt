-- The window's chips, shifted up to the place and down to the width.
use mathlib.Core.Path.{◌∙◌, ap}
use Prim.Native.Nat.{ℕ, ◌*◌, ◌-◌, ◌/◌, ◌%◌, ◌^◌}
use native.Mathlib.Omega.{arith}
use Rattle.chips.proofs.WindowLaws.{word_at_cut}
use Rattle.chips.proofs.word.Goals as goal

pub returns : goal.returns
returns c =
    let args = c.args in
    ap (λ (x : ℕ). x * 2 ^ (args.at % 8) % 2 ^ 64 / 2 ^ (64 - args.w)) c.window.ensures
    ∙ word_at_cut args.s.now args.at args.w (omega arith)
