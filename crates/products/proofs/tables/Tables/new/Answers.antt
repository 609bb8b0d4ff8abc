-- `products::tables::Tables::new` meets its contract. Assumes nothing.
use Rattle.std.proofs.Common.{refl}
use Rattle.field.specs.Field.{up}
use Rattle.products.proofs.TableLaws.{stepwise, listed, empty, tables_right}
use Rattle.products.proofs.tables.Tables.new.Goals as goal

pub invariant_of-result : goal.invariant_of-result
unfolding stepwise listed empty up
invariant_of-result c = record { right = tables_right _ _ refl refl refl refl tt tt tt }
