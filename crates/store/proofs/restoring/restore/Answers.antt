-- `restoring::restore` meets its contract: the places first, and nothing is written if there are too many.
-- Assumes nothing.
use mathlib.Core.Path.{◌∙◌}
use native.Mathlib.Omega.{arith}
use borrow.Author.Rules.{rules}
use Rattle.store.proofs.KeptLaws.{opened_kept}
use Rattle.store.proofs.BackupLaws.{opened_backup}
use Rattle.store.proofs.RestoringLaws.{file_refused, restore_full, restore_all}
use Rattle.store.proofs.restoring.restore.Goals as goal

pub returns-in_err-in_file : goal.returns-in_err-in_file
returns-in_err-in_file c =
    let o = rw c.none-held.ensures.0 at c.in_ok-in_memory.ensures.held in
    let none = rw c.none-theirs.ensures.0 at c.in_err-in_file.ensures in
    let refused = file_refused (opened_kept o) c.args.file.now none in
    search rules

pub returns-then-total-gt-LIMIT : goal.returns-then-total-gt-LIMIT
returns-then-total-gt-LIMIT c =
    let o = rw c.none-held.ensures.0 at c.in_ok-in_memory.ensures.held in
    let t = rw c.none-theirs.ensures.0 at c.in_ok-in_file.ensures in
    restore_full (opened_kept o) c.args.file.now (opened_backup t) t.begins
    (rw (o.over, t.over) at c.places_in-total.ensures.0) c.if-total-gt-LIMIT.true

pub merge_all-requires : goal.merge_all-requires
merge_all-requires c =
    let o = rw c.none-held.ensures.0 at c.in_ok-in_memory.ensures.held in
    let own = c.in_memory.new.index in
    let plan = rw o.over at c.places_in-total.ensures in
    record {
      bytes = rw o.over at own.octets;
      own = rw (o.over, o.begins) at own.meters;
      room = rw c.none-held.ensures.0 at c.in_ok-in_memory.ensures.room;
      few = omega (arith, plan.0);
      placed = plan.1;
    }

pub returns : goal.returns
returns c =
    let o = rw c.none-held.ensures.0 at c.in_ok-in_memory.ensures.held in
    let t = rw c.none-theirs.ensures.0 at c.in_ok-in_file.ensures in
    restore_all (opened_kept o) c.args.file.now (opened_backup t) t.begins
    (rw (o.over, t.over) at c.places_in-total.ensures.0) c.if-total-gt-LIMIT.false (rw t.over at c.merge_all.ensures)
    (c.put_number.ensures ∙ rw c.allowance_of.ensures)
