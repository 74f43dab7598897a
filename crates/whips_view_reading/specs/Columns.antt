-- The columns of a view's relations.
use Rattle.std.specs.Prelude.{ℕ, suc, List, [], ◌∷◌, ◌++◌, map, slice_get, Option, Some, None, find}
use Rattle.std.specs.Str.{bytes_eq}
use Rattle.serde_json.specs.Data.{Data}
use Rattle.whips_model.specs.declared.Kind.{Kind}
use Rattle.whips_model.specs.declared.ColRef.{ColRef}
use Rattle.whips_reading.specs.declared.place.Code.TheVariants.{Name}
use Rattle.whips_reading.specs.Json.{Text}
use Rattle.whips_reading.specs.Places.{Place}
use Rattle.whips_reading.specs.Reading.{Read, ◌>>=◌, there}
use Rattle.whips_reading.specs.Names.{text_in}
use Rattle.whips_relation_reading.specs.Relations.{RelationForm}

-- A column of a view's relations: its name as `relation.column`, its place, and its kind.
pub record ViewColumn : Type 0 where
  pub name : Text
  pub at : ColRef
  pub kind : Kind

-- A column's name with its relation's, as `relation.column`.
abbrev pub qualified : Text → Text → Text
qualified relation column = relation ++ 46 ∷ column

abbrev pub view_column : (relation : Text) (part col : ℕ) → Text → Kind → ViewColumn
view_column relation part col name kind = record { name = qualified relation name; at = record { part = part; col = col }; kind = kind }

-- The columns of a relation at this part of a view, of which the first here has number `col`.
abbrev pub columns_from : (relation : Text) (part col : ℕ) → List Text → List Kind → List ViewColumn
columns_from relation part col [] kinds = []
columns_from relation part col (name ∷ names) [] = []
columns_from relation part col (name ∷ names) (kind ∷ kinds) = view_column relation part col name kind ∷ columns_from relation part (suc col) names kinds

abbrev pub columns_at : ℕ → Option RelationForm → List ViewColumn
columns_at part None = []
columns_at part (Some r) = columns_from r.name part 0 r.columns r.table.columns.kinds

-- The columns of these relations of a script, of which the first is at this part of the view.
abbrev pub view_columns : List RelationForm → ℕ → List ℕ → List ViewColumn
view_columns relations part [] = []
view_columns relations part (r ∷ numbers) = columns_at part (slice_get relations r) ++ view_columns relations (suc part) numbers

-- The column with this name.
abbrev pub column_of : List ViewColumn → Text → Option ViewColumn
column_of columns text = find (λ c. bytes_eq c.name text) columns

-- The column that a value names.
abbrev pub column_named : List ViewColumn → Place → Data → Read ViewColumn
column_named columns place d = do
  text ← text_in place d
  there (column_of columns text) Name place
