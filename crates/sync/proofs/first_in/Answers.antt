use mathlib.Core.Path.{sym}
use Prim.Native.Nat.{◌+◌, ◌-◌, ◌/◌, ◌%◌, ◌^◌}
use native.Mathlib.Omega.{arith}
use borrow.Author.Tests.{eq-eqb}
use Rattle.sync.specs.SyncSearch.{sync_word}
use Rattle.sync.proofs.PassedLaws.{passed_first}
use Rattle.sync.proofs.ScanLaws.{stands_in}
use Rattle.sync.proofs.first_in.Goals as goal

pub returns-then-x-below-eq21565 : goal.returns-then-x-below-eq21565
returns-then-x-below-eq21565 c =
    let at = c.args in
    let j = c.loop-j.j in
    sym (passed_first (stands_in sync_word at.x) at.r at.n j (omega arith)
    (eq-eqb (at.x / 2 ^ (48 - (at.r + j)) % 65536) sync_word c.if-x-below-eq21565.true) c.loop-j.invariant)
