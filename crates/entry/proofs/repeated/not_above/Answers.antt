-- The second number is above the first, by the page's promise.
use mathlib.Core.Path.{ap}
use Prim.Native.Nat.{ℕ}
use native.Mathlib.Omega.{arith}
use Rattle.std.proofs.Common.{rules}
use borrow.Author.Tests.{lt-leb}
use Rattle.std.specs.Prelude.{Result}
use Rattle.answers.specs.Outcome.{Outcome}
use Rattle.answers.specs.declared.Refusal.{Refusal}
use Rattle.entry.proofs.AboveLaws.{second_after}
use Rattle.entry.proofs.repeated.not_above.Goals as goal

pub returns-in-Ok : goal.returns-in-Ok
returns-in-Ok c =
    let a = c.args in
    let before = c.requires in
    lt-leb _ a.first
    (second_after before.0 a.file.now a.a a.first _ (omega (arith, c.ranges.a)) before.1.0
    (λ j. search rules) before.1.1
    (ap (λ (o : Outcome (Result ℕ Refusal)). o.memory) c.restore.ensures)
    (ap (λ (o : Outcome (Result ℕ Refusal)). o.answer) c.issue.ensures) c.in-Ok.is)
