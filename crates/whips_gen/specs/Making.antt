-- The relations while a script is made.
use Rattle.std.specs.Prelude.{◌≡◌}
use Rattle.whips_model.specs.Relation.{Table}
use Rattle.whips_gen.specs.Shop.{order_columns, item_columns}

-- the relations are of orders and of items
pub record HasColumns (first second : Table) : Type 0 where
  pub orders : first.columns ≡ order_columns
  pub items : second.columns ≡ item_columns
