-- Lists of values, and rows.
use Rattle.std.specs.Prelude.{ℕ, ◌==◌, List, [], ◌∷◌, ◌++◌, length, slice_index_or, is_none, Ok}
use Rattle.serde_json.specs.Data.{Data}
use Rattle.whips_model.specs.declared.Kind.{Kind}
use Rattle.whips_model.specs.declared.Kind.TheVariants.{Number}
use Rattle.whips_model.specs.Tuples.{Codes, at_columns, row_at, put_row}
use Rattle.whips_model.specs.Relation.{Table}
use Rattle.whips_reading.specs.declared.place.Code.TheVariants.{Shape, Key}
use Rattle.whips_reading.specs.Json.{Text}
use Rattle.whips_reading.specs.Places.{Place}
use Rattle.whips_reading.specs.Reading.{Read, ◌>>=◌, ◌>>◌, check, listed, elements, in_turn}
use Rattle.whips_texts.specs.Values.{value_in}

-- The kind of a column, from 0.
abbrev pub kind_at : List Kind → ℕ → Kind
kind_at kinds i = slice_index_or kinds i Number

-- One more value, of the kind whose turn it is.
abbrev pub value_added : List Text → List Kind → Codes → Place → Data → Read Codes
value_added texts kinds t place d = do
  code ← value_in texts (kind_at kinds (length t)) place d
  Ok (t ++ code ∷ [])

-- A list with a value for each of these kinds.
abbrev pub values : List Text → List Kind → Place → Data → Read Codes
values texts kinds place d = do
  ds ← listed place d
  check (length ds == length kinds) Shape place
  in_turn (value_added texts kinds) place 0 [] ds

-- One more row, whose key no row has yet.
abbrev pub row_added : List Text → Table → Place → Data → Read Table
row_added texts table place d = do
  t ← values texts table.columns.kinds place d
  check (is_none (row_at table.columns.key (at_columns table.columns.key t) table.rows)) Key place
  Ok (record table { rows = put_row table.columns.key t table.rows })

-- Up to 4,096 rows.
abbrev pub rows_in : List Text → Table → Place → Data → Read Table
rows_in texts table place d = elements 0 4096 place d >>= in_turn (row_added texts) place 0 table
