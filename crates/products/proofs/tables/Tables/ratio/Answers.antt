-- `products::tables::Tables::ratio` meets its contract. Assumes nothing.
use Rattle.std.proofs.Common.{arith}
use Rattle.products.proofs.TableLaws.{log-le, log_small, quotient_right}
use Rattle.products.proofs.tables.Tables.ratio.Goals as goal

pub overflow_sub-result : goal.overflow_sub-result
overflow_sub-result c = omega (arith, log_small c.args.self.now.right c.args.b c.requires (omega arith))

pub bounds-self-self : goal.bounds-self-self
bounds-self-self c = omega (arith, log-le c.args.self.now.right c.args.a (omega arith))

pub returns : goal.returns
returns c = quotient_right c.args.self.now.right c.args.a c.args.b (omega arith) c.requires (omega arith)
