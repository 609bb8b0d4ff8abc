-- `mending::single::locate` meets its contract. Assumes nothing.
use native.Mathlib.Omega.{arith}
use native.Mathlib.Nat.{pos_of_ne-zero}
use Rattle.products.proofs.TableLaws.{log_small}
use Rattle.mending.proofs.LocateLaws.{locates_none, locates_outside, locates_there}
use Rattle.mending.proofs.single.locate.Goals as goal

pub returns-then-x-eq0 : goal.returns-then-x-eq0
returns-then-x-eq0 c = locates_none c.args.tables.now.right _ _ _ c.if-x-eq0.true

pub overflow_sub-behind : goal.overflow_sub-behind
overflow_sub-behind c =
    omega (arith, log_small c.args.tables.now.right c.args.x (pos_of_ne-zero c.if-x-eq0.false) (omega arith))

pub returns-then-n-behind : goal.returns-then-n-behind
returns-then-n-behind c = locates_outside c.args.tables.now.right _ _ _ c.if-n-behind.true

pub returns : goal.returns
returns c = locates_there c.args.tables.now.right _ _ _ c.if-x-eq0.false c.if-n-behind.false
