-- Relations with their initial rows.
use Rattle.std.specs.Prelude.{ℕ, List, [], ◌∷◌, ◌++◌, map, Ok}
use Rattle.serde_json.specs.Data.{Data}
use Rattle.whips_model.specs.Relation.{Table}
use Rattle.whips_reading.specs.declared.json.ObjectForm.TheVariants.{Relation}
use Rattle.whips_reading.specs.declared.place.Member.TheVariants as member
use Rattle.whips_reading.specs.Json.{Text}
use Rattle.whips_reading.specs.Places.{Place}
use Rattle.whips_reading.specs.Reading.{Read, ◌>>=◌, ◌>>◌, object, within, within_or, elements, in_turn}
use Rattle.whips_reading.specs.Names.{fresh_name}
use Rattle.whips_relation_reading.specs.Columns.{NamedColumns, columns_in, key_in}
use Rattle.whips_relation_reading.specs.Rows.{rows_in}

-- A relation: its name, the names of its columns, and its columns and initial rows.
pub record RelationForm : Type 0 where
  pub name : Text
  pub columns : List Text
  pub table : Table

abbrev pub relation_names : List RelationForm → List Text
relation_names relations = map (λ r. r.name) relations

-- The relation with these columns and no rows.
abbrev pub no_rows : NamedColumns → List ℕ → Table
no_rows columns key = record { columns = record { kinds = columns.kinds; key = key }; rows = [] }

-- A relation is an object, which has first a name that no relation before it has,
abbrev pub new_name : List RelationForm → Place → Data → Read Text
new_name relations place d = do
  object Relation place d
  within member.Name (fresh_name (relation_names relations)) place d

-- then columns, and a key that is some of them,
abbrev pub empty_relation : Place → Data → Read (List Text × Table)
empty_relation place d = do
  columns ← within member.Columns columns_in place d
  key ← within member.Key (key_in columns.names) place d
  Ok (columns.names, no_rows columns key)

-- and then perhaps rows.
abbrev pub relation_in : List Text → List RelationForm → Place → Data → Read RelationForm
relation_in texts relations place d = do
  name ← new_name relations place d
  (columns, empty) ← empty_relation place d
  table ← within_or empty member.Rows (rows_in texts empty) place d
  Ok (record { name = name; columns = columns; table = table })

-- One more relation.
abbrev pub relation_added : List Text → List RelationForm → Place → Data → Read (List RelationForm)
relation_added texts relations place d = do
  relation ← relation_in texts relations place d
  Ok (relations ++ relation ∷ [])

-- The 1 to 4 relations of a source, behind those of the sources before it.
abbrev pub relations_added : List Text → List RelationForm → Place → Data → Read (List RelationForm)
relations_added texts relations place d = elements 1 4 place d >>= in_turn (relation_added texts) place 0 relations
