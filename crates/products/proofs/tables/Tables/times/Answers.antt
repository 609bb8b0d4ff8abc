-- `products::tables::Tables::times` meets its contract. Assumes nothing.
use Rattle.std.proofs.Common.{arith}
use Rattle.products.proofs.TableLaws.{log-le, product}
use Rattle.products.proofs.tables.Tables.times.Goals as goal

pub bounds-self-self : goal.bounds-self-self
bounds-self-self c =
    let ok = c.args.self.now.right in
    omega (arith, log-le ok c.args.a (omega arith), log-le ok c.args.b (omega arith))

pub returns : goal.returns
returns c = product c.args.self.now.right c.args.a c.args.b (omega arith) (omega arith)
