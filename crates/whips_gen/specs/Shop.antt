-- The shop of made scripts: orders at one source, items at another, and two views.
use Rattle.std.specs.Prelude.{ℕ, List, [], ◌∷◌, codes}
use Rattle.whips_model.specs.declared.ColRef.{ColRef}
use Rattle.whips_model.specs.declared.Cmp.TheVariants.{Ge}
use Rattle.whips_model.specs.declared.Kind.TheVariants.{Number}
use Rattle.whips_model.specs.Tuples.{Columns}
use Rattle.whips_model.specs.Relation.{Table}
use Rattle.whips_model.specs.Views.{ViewData}
use Rattle.whips_view.specs.ViewDefs.{view_of}
use Rattle.whips_setup.specs.Setups.{SetupData, setup_of}
use Rattle.whips_facts.specs.Scripts.{Labels}

-- number, item and quantity of an order; the number is the key
abbrev pub order_columns : Columns
order_columns = record { kinds = Number ∷ Number ∷ Number ∷ []; key = 0 ∷ [] }

-- an item and its bin; the item is the key
abbrev pub item_columns : Columns
item_columns = record { kinds = Number ∷ Number ∷ []; key = 0 ∷ [] }

abbrev pub shop_columns : List Columns
shop_columns = order_columns ∷ item_columns ∷ []

-- orders and items, of which there are none at first
abbrev pub shop_tables : List Table
shop_tables = (record { columns = order_columns; rows = [] }) ∷ (record { columns = item_columns; rows = [] }) ∷ []

abbrev pub column : ℕ → ℕ → ColRef
column part col = record { part = part; col = col }

-- each order with the bin of its item: order, item, bin, quantity
abbrev pub lines_parts : ViewData
lines_parts = record {
  relations = 0 ∷ 1 ∷ [];
  homes = 0 ∷ 1 ∷ [];
  equal = (column 0 1, column 1 0) ∷ [];
  conds = [];
  out = column 0 0 ∷ column 1 0 ∷ column 1 1 ∷ column 0 2 ∷ [];
}

-- the orders of a quantity of 50 or more
abbrev pub big_parts : ViewData
big_parts = record {
  relations = 0 ∷ [];
  homes = 0 ∷ [];
  equal = [];
  conds = (record { at = column 0 2; cmp = Ge; code = 50; kind = Number }) ∷ [];
  out = column 0 0 ∷ column 0 1 ∷ column 0 2 ∷ [];
}

-- two sources of one relation each, and two views of 128 slots each; own
abbrev pub shop : SetupData
shop = setup_of 2 (0 ∷ 1 ∷ []) shop_tables (view_of shop_columns lines_parts ∷ view_of shop_columns big_parts ∷ []) (128 ∷ 128 ∷ [])

abbrev pub shop_labels : Labels
shop_labels = record {
  sources = codes "sales" ∷ codes "stock" ∷ [];
  views = codes "lines" ∷ codes "big" ∷ [];
  sessions = codes "s1" ∷ codes "s2" ∷ [];
  texts = [];
}
