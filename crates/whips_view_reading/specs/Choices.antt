-- The equalities, conditions and out columns of a view.
use Rattle.std.specs.Prelude.{List, [], ◌∷◌, ◌++◌, codes, if◌then◌else◌, Ok, Option, Some, None}
use Rattle.std.specs.Str.{bytes_eq}
use Rattle.serde_json.specs.Data.{Data}
use Rattle.whips_model.specs.declared.ColRef.{ColRef}
use Rattle.whips_model.specs.declared.Cmp.{Cmp}
use Rattle.whips_model.specs.declared.Cmp.TheVariants.{Eq, Ne, Lt, Le, Gt, Ge}
use Rattle.whips_model.specs.declared.Cond.{Cond}
use Rattle.whips_view.specs.Refusals.{is_same_kind}
use Rattle.whips_reading.specs.declared.place.Code.TheVariants.{Shape, Value}
use Rattle.whips_reading.specs.declared.place.Member.TheVariants as member
use Rattle.whips_reading.specs.Json.{Text}
use Rattle.whips_reading.specs.Places.{Place, in_element}
use Rattle.whips_reading.specs.Reading.{Read, ◌>>=◌, ◌>>◌, check, there, elements, pair, triple, in_turn, within, within_or}
use Rattle.whips_reading.specs.Names.{text_in}
use Rattle.whips_texts.specs.Values.{value_in}
use Rattle.whips_view_reading.specs.Columns.{ViewColumn, column_named}

-- One more equality: a pair of columns of one kind.
abbrev pub equality_added : List ViewColumn → List (ColRef × ColRef) → Place → Data → Read (List (ColRef × ColRef))
equality_added columns equal place d = do
  (left, right) ← pair place d
  a ← column_named columns (in_element place 0) left
  b ← column_named columns (in_element place 1) right
  check (is_same_kind a.kind b.kind) Value place
  Ok (equal ++ (a.at, b.at) ∷ [])

abbrev pub comparison_of : Text → Option Cmp
comparison_of text =
    if bytes_eq text (codes "=") then Some Eq
    else (if bytes_eq text (codes "!=") then Some Ne
    else (if bytes_eq text (codes "<") then Some Lt
    else (if bytes_eq text (codes "<=") then Some Le
    else (if bytes_eq text (codes ">") then Some Gt
    else (if bytes_eq text (codes ">=") then Some Ge else None)))))

abbrev pub comparison_in : Place → Data → Read Cmp
comparison_in place d = do
  text ← text_in place d
  there (comparison_of text) Shape place

-- One more condition: a column, a comparison, and a value of the column's kind, a text by its code among the texts of the script.
abbrev pub condition_added : List ViewColumn → List Text → List Cond → Place → Data → Read (List Cond)
condition_added columns texts conds place d = do
  (column, comparison, value) ← triple place d
  c ← column_named columns (in_element place 0) column
  cmp ← comparison_in (in_element place 1) comparison
  code ← value_in texts c.kind (in_element place 2) value
  Ok (conds ++ record { at = c.at; cmp = cmp; code = code; kind = c.kind } ∷ [])

-- One more out column.
abbrev pub out_added : List ViewColumn → List ColRef → Place → Data → Read (List ColRef)
out_added columns out place d = do
  c ← column_named columns place d
  Ok (out ++ c.at ∷ [])

-- Up to 16 equalities and as many conditions, and 1 to 16 out columns.
abbrev pub equalities_in : List ViewColumn → Place → Data → Read (List (ColRef × ColRef))
equalities_in columns place d = elements 0 16 place d >>= in_turn (equality_added columns) place 0 []

abbrev pub conditions_in : List ViewColumn → List Text → Place → Data → Read (List Cond)
conditions_in columns texts place d = elements 0 16 place d >>= in_turn (condition_added columns texts) place 0 []

abbrev pub out_in : List ViewColumn → Place → Data → Read (List ColRef)
out_in columns place d = elements 1 16 place d >>= in_turn (out_added columns) place 0 []

-- What a view's rows must meet, and what of them is shown.
pub record Choice : Type 0 where
  pub equal : List (ColRef × ColRef)
  pub conds : List Cond
  pub out : List ColRef

-- The columns of a view's relations, and the texts of the script.
pub record Scope : Type 0 where
  pub columns : List ViewColumn
  pub texts : List Text

-- The equalities, conditions and out columns of a view.
abbrev pub choice_in : List ViewColumn → List Text → Place → Data → Read Choice
choice_in columns texts place d = do
  equal ← within_or [] member.Equal (equalities_in columns) place d
  conds ← within_or [] member.Where (conditions_in columns texts) place d
  out ← within member.Out (out_in columns) place d
  Ok (record { equal = equal; conds = conds; out = out })
