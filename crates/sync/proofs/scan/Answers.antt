use mathlib.Core.Path.{◌≡◌, sym, ap, ◌∙◌}
use Prim.Native.Nat.{ℕ, ◌+◌, ◌%◌}
use native.Mathlib.Omega.{arith}
use Rattle.sync.specs.SyncSearch.{passed, sync_word}
use Rattle.sync.proofs.PassedLaws.{passed_none}
use Rattle.sync.proofs.ScanLaws.{stands_in, passed_window, Turn, turn_hit, turn_miss}
use Rattle.sync.proofs.scan.Invariants.{syncAt}
use Rattle.sync.proofs.scan.Goals.{After-first_in-j}
use Rattle.sync.proofs.scan.Goals as goal

-- what first_in counted in the window is the walk over the n places from start + i on
turn :
    (c : After-first_in-j)
    → let at = c.args in
    Turn (syncAt at.s.now) at.start at.m c.loop-i.i c.min-n.result
    c.first_in-j.result
turn c =
    let at = c.args in
    let n = c.min-n.result in
    let k = at.start + c.loop-i.i in
    let window = ap (λ (x : ℕ). passed (stands_in sync_word x) (k % 8) n) c.window.ensures in
    let over = c.first_in-j.ensures ∙ window ∙ passed_window sync_word at.s.now k n (omega arith) in
    record { missed = c.loop-i.invariant.1; fits = omega arith; over = over }

pub returns-then-j-n : goal.returns-then-j-n
returns-then-j-n c = turn_hit (turn (goal.at.returns-then-j-n c).After-first_in-j) (omega arith)

pub loop-i-preserved : goal.loop-i-preserved
loop-i-preserved c = (omega arith, turn_miss (turn (goal.at.loop-i-preserved c).After-first_in-j) (omega arith))

pub returns : goal.returns
returns c =
    let at = c.args in
    let all : c.loop-i.i ≡ at.m = omega arith in
    rw all (sym (passed_none (syncAt at.s.now) at.start at.m (rw all at c.loop-i.invariant.1)))
