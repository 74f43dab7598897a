-- A relation as data, and the value of a view on all relations.
use Rattle.std.specs.Prelude.{◌≡◌, ℕ, List, [], length, map, slice_get, Option, Some, None}
use Rattle.std.specs.List.{AllByRecursion}
use Rattle.whips_model.specs.Tuples.{Codes, Columns, IsKeyed}
use Rattle.whips_model.specs.Views.{ViewData, rows_of}

-- A relation: its columns, and its rows in the order of their keys.
pub record Table : Type 0 where
  pub columns : Columns
  pub rows : List Codes

-- Each row has a code for each column, and the rows are in the order of their keys, no key twice.
pub record IsTable (columns : Columns) (rows : List Codes) : Type 0 where
  pub widths : AllByRecursion (λ t. length t ≡ length columns.kinds) rows
  pub keyed : IsKeyed columns.key rows

-- The rows of a relation, or none where it isn't there.
abbrev pub rows_in : Option Table → List Codes
rows_in None = []
rows_in (Some t) = t.rows

-- The rows of the relation with this number.
abbrev pub table_rows : List Table → ℕ → List Codes
table_rows db r = rows_in (slice_get db r)

-- The value of the view on all relations by number.
abbrev pub value_of : ViewData → List Table → List Codes
value_of view db = rows_of view (map (table_rows db) view.relations)
