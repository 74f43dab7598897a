-- The columns and the key of a relation.
use Rattle.std.specs.Prelude.{ℕ, List, [], ◌∷◌, ◌++◌, ◌==◌, not, codes, if◌then◌else◌, Ok}
use Rattle.std.specs.List.{list_any}
use Rattle.std.specs.Str.{bytes_eq}
use Rattle.serde_json.specs.Data.{Data}
use Rattle.whips_model.specs.declared.Kind.{Kind}
use Rattle.whips_model.specs.declared.Kind.TheVariants.{Number, Text as TextKind}
use Rattle.whips_reading.specs.declared.place.Code.TheVariants.{Shape, Name}
use Rattle.whips_reading.specs.Json.{Text}
use Rattle.whips_reading.specs.Places.{Place, in_element}
use Rattle.whips_reading.specs.Reading.{Read, ◌>>=◌, ◌>>◌, refuse, check, elements, pair, in_turn}
use Rattle.whips_reading.specs.Names.{text_in, fresh_name, named}

-- Columns: their names, and the kind of each.
pub record NamedColumns : Type 0 where
  pub names : List Text
  pub kinds : List Kind

abbrev pub no_columns : NamedColumns
no_columns = record { names = []; kinds = [] }

-- A kind is `number` or `text`.
abbrev pub kind_of : Place → Text → Read Kind
kind_of place text = if bytes_eq text (codes "number") then Ok Number else (if bytes_eq text (codes "text") then Ok TextKind else refuse Shape place)

abbrev pub kind_in : Place → Data → Read Kind
kind_in place d = text_in place d >>= kind_of place

abbrev pub with_column : NamedColumns → Text → Kind → NamedColumns
with_column columns name kind = record { names = columns.names ++ name ∷ []; kinds = columns.kinds ++ kind ∷ [] }

-- One more column: a pair of a new name and a kind.
abbrev pub column_added : NamedColumns → Place → Data → Read NamedColumns
column_added columns place d = do
  (name, kind) ← pair place d
  name ← fresh_name columns.names (in_element place 0) name
  kind ← kind_in (in_element place 1) kind
  Ok (with_column columns name kind)

-- 1 to 8 columns.
abbrev pub columns_in : Place → Data → Read NamedColumns
columns_in place d = elements 1 8 place d >>= in_turn column_added place 0 no_columns

-- One more key column, by its name.
abbrev pub key_column_added : List Text → List ℕ → Place → Data → Read (List ℕ)
key_column_added names key place d = do
  column ← named names place d
  check (not (list_any (λ k. k == column) key)) Name place
  Ok (key ++ column ∷ [])

-- 1 to 8 key columns.
abbrev pub key_in : List Text → Place → Data → Read (List ℕ)
key_in names place d = elements 1 8 place d >>= in_turn (key_column_added names) place 0 []
