-- `products::tables::Tables::times_power` meets its contract. Assumes nothing.
use Rattle.std.proofs.Common.{arith}
use Rattle.products.proofs.TableLaws.{log-le, power_product}
use Rattle.products.proofs.tables.Tables.times_power.Goals as goal

pub bounds-self-self : goal.bounds-self-self
bounds-self-self c = omega (arith, log-le c.args.self.now.right c.args.a (omega arith))

pub returns : goal.returns
returns c = power_product c.args.self.now.right c.args.a c.args.k (omega arith) c.requires
