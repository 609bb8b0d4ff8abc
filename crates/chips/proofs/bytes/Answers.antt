use mathlib.Core.Path.{◌≡◌, ap, sym, ◌∙◌}
use Prim.Native.Nat.{ℕ, ◌+◌, ◌*◌, ◌/◌}
use native.Mathlib.Omega.{arith}
use lib.ListN.{length, get_or}
use Rattle.chips.proofs.PackingLaws.{get_or_tabulate, length-tabulate}
use Rattle.chips.proofs.WindowLaws.{word_at_next}
use Rattle.chips.specs.Chips.{word_at}
use Rattle.ground.proofs.InPlaceLaws.{in_place_start, in_place_next, in_place_end}
use Rattle.chips.proofs.bytes.Goals as goal

pub loop-k-init : goal.loop-k-init
loop-k-init c = in_place_start _ c.args.room.now

pub loop-k-preserved : goal.loop-k-preserved
loop-k-preserved c =
    let a = c.args in
    let k = c.loop-k.k in
    let high : c.from.result ≡ get_or a.s.now (a.at / 8 + k) 0
    = c.from.ensures ∙ ap (λ (q : ℕ). get_or a.s.now q 0) (omega arith) in
    let low : c.from-in-loop-k.result ≡ get_or a.s.now ((a.at + 7) / 8 + k) 0
    = c.from-in-loop-k.ensures ∙ ap (λ (q : ℕ). get_or a.s.now q 0) (omega arith) in
    let read = word_at_next a.s.now a.at k (high, omega (arith, high, c.type_inv.s (a.at / 8 + k)))
    (low, omega (arith, low, c.type_inv.s ((a.at + 7) / 8 + k))) in
    let asked = get_or_tabulate (λ j. word_at a.s.now (a.at + 8 * j) 8) (length a.room.now) k (omega arith) in
    in_place_next _ a.room.now c.loop-k.invariant (omega arith) (read ∙ sym asked)

pub returns : goal.returns
returns c =
    let a = c.args in
    in_place_end c.loop-k.invariant (length-tabulate _ (length a.room.now)) (omega arith)
