use mathlib.Core.Path.{◌≡◌, refl, ap, ◌∙◌}
use Prim.Native.Nat.{ℕ, ◌%◌, ◌^◌, ◌<◌}
use native.Mathlib.Omega.{arith}
use lib.Bits.{bit_xor, xor_lt}
use Rattle.crc.specs.Check.{bit_in, bits_in}
use Rattle.crc.specs.Inner.{nested}
use Rattle.crc.proofs.FoldLaws.{down_leaves}
use Rattle.crc.proofs.TableLaws.{low_rows, rows_start, rows_step, rows_end}
use Rattle.crc.proofs.words.left_by.Goals.{After-moved-high}
use Rattle.crc.proofs.words.left_by.Goals as goal

-- the word that five shifts bring down to forty digits
abbrev u-of : After-moved-high → ℕ
u-of c = bit_xor (c.args.v % 1099511627776) c.moved-high.result

u-lt : (c : After-moved-high) → u-of c < 2 ^ 40
u-lt c =
    xor_lt 40 (c.args.v % 1099511627776) c.moved-high.result (omega arith)
    (omega (arith, c.moved-high.ensures.by_index 14 (omega arith)))

pub moved-high-requires-clause-n_value : goal.moved-high-requires-clause-n_value
unfolding bit_in bits_in nested
moved-high-requires-clause-n_value c = refl

pub loop-j-init : goal.loop-j-init
loop-j-init c = rows_start (u-of (goal.at.loop-j-init c).After-moved-high)

pub loop-j-preserved : goal.loop-j-preserved
loop-j-preserved c =
    let at = c.loop-j in
    rw c.row.ensures (rows_step (u-of (goal.at.loop-j-preserved c).After-moved-high) at.sum at.j
    (u-lt (goal.at.loop-j-preserved c).After-moved-high) (omega arith) at.invariant)

pub returns : goal.returns
returns c =
    let at = c.loop-j in
    let all : at.j ≡ 3 = omega arith in
    at.invariant ∙ ap (low_rows (u-of (goal.at.returns c).After-moved-high)) all
    ∙ rows_end (u-of (goal.at.returns c).After-moved-high) (u-lt (goal.at.returns c).After-moved-high)
    ∙ down_leaves c.args.v c.moved-high.result (omega arith) c.moved-high.ensures.result_value
