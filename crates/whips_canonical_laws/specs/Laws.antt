-- Laws: parts of a script that were read are written as the data that they were read from.
use Rattle.std.specs.Prelude.{◌≡◌, ℕ, List, [], ◌∷◌, map, Some, Ok}
use Rattle.serde_json.specs.Data.{Data}
use Rattle.whips_model.specs.declared.Kind.{Kind}
use Rattle.whips_model.specs.declared.ColRef.{ColRef}
use Rattle.whips_model.specs.declared.Cond.{Cond}
use Rattle.whips_model.specs.Tuples.{Codes, Columns}
use Rattle.whips_model.specs.Relation.{Table}
use Rattle.whips_setup.specs.declared.plan.Plan.TheVariants.{Picked}
use Rattle.whips_view.specs.ViewDefs.{View}
use Rattle.whips_facts.specs.Scripts.{Labels}
use Rattle.whips_reports.specs.Lines.{name_at, value_data}
use Rattle.whips_reading.specs.Json.{Text}
use Rattle.whips_reading.specs.Places.{Place}
use Rattle.whips_reading.specs.Reading.{number_within}
use Rattle.whips_texts.specs.Values.{value_in}
use Rattle.whips_relation_reading.specs.Columns.{NamedColumns, columns_in, key_in}
use Rattle.whips_relation_reading.specs.Rows.{values, rows_in}
use Rattle.whips_relation_reading.specs.Relations.{RelationForm, relation_in}
use Rattle.whips_view_reading.specs.Columns.{view_columns}
use Rattle.whips_view_reading.specs.Choices.{equalities_in, conditions_in, out_in}
use Rattle.whips_view_reading.specs.Views.{Basis, relations_in, ViewForm, view_in}
use Rattle.whips_plan_reading.specs.Sessions.{sessions_in}
use Rattle.whips_plan_reading.specs.Schedules.{picked_in}
use Rattle.whips_script_writing.specs.Objects.{number_data, list_data, text_list}
use Rattle.whips_script_writing.specs.Relations.{values_data, rows_data, columns_data, relation_data}
use Rattle.whips_script_writing.specs.Scripts.{picked_data}
use Rattle.whips_script_writing.specs.Views.{column_text, equality_data, condition_data, view_data}
use Rattle.whips_canonical_laws.specs.Known.{Knows, KnowsEach, KnowsRows, KnowsRelation, KnowsConditions, KnowsView}

-- ---- values

abbrev pub ValuesAreWritten : Type 0
ValuesAreWritten = (l : Labels) (kind : Kind) (place : Place) (d : Data) (code : ℕ)
    → Knows l.texts d → value_in l.texts kind place d ≡ Ok code → value_data l code (Some kind) ≡ d

abbrev pub RowsAreWritten : Type 0
RowsAreWritten = (l : Labels) (kinds : List Kind) (place : Place) (d : Data) (t : Codes)
    → KnowsEach l.texts d → values l.texts kinds place d ≡ Ok t → values_data l kinds t ≡ d

-- ---- relations

abbrev pub ColumnsAreWritten : Type 0
ColumnsAreWritten = (place : Place) (d : Data) (columns : NamedColumns) → columns_in place d ≡ Ok columns → list_data (columns_data columns.names columns.kinds) ≡ d

abbrev pub KeysAreWritten : Type 0
KeysAreWritten = (names : List Text) (place : Place) (d : Data) (key : List ℕ) → key_in names place d ≡ Ok key → text_list (map (name_at names) key) ≡ d

-- The rows of a relation, written in the order of their keys, are read as the same relation.
abbrev pub RelationRowsAreRead : Type 0
RelationRowsAreRead = (l : Labels) (columns : Columns) (place : Place) (d : Data) (table : Table)
    → KnowsRows l.texts d → rows_in l.texts (let t : Table = record { columns = columns; rows = [] } in t) place d ≡ Ok table
    → rows_in l.texts (let t : Table = record { columns = columns; rows = [] } in t) place (list_data (rows_data l columns.kinds table.rows)) ≡ Ok table

-- A relation, written with every member, is read as the same relation.
abbrev pub RelationsAreRead : Type 0
RelationsAreRead = (l : Labels) (relations : List RelationForm) (place : Place) (d : Data) (r : RelationForm)
    → KnowsRelation l.texts d → relation_in l.texts relations place d ≡ Ok r → relation_in l.texts relations place (relation_data l r) ≡ Ok r

-- ---- views

abbrev pub ViewRelationsAreWritten : Type 0
ViewRelationsAreWritten = (names : List Text) (place : Place) (d : Data) (numbers : List ℕ) → relations_in names place d ≡ Ok numbers → text_list (map (name_at names) numbers) ≡ d

abbrev pub OutIsWritten : Type 0
OutIsWritten = (relations : List RelationForm) (numbers : List ℕ) (place : Place) (d : Data) (out : List ColRef)
    → out_in (view_columns relations 0 numbers) place d ≡ Ok out → text_list (map (column_text relations numbers) out) ≡ d

abbrev pub EqualitiesAreWritten : Type 0
EqualitiesAreWritten = (relations : List RelationForm) (numbers : List ℕ) (place : Place) (d : Data) (equal : List (ColRef × ColRef))
    → equalities_in (view_columns relations 0 numbers) place d ≡ Ok equal → list_data (map (equality_data relations numbers) equal) ≡ d

abbrev pub ConditionsAreWritten : Type 0
ConditionsAreWritten = (l : Labels) (relations : List RelationForm) (numbers : List ℕ) (place : Place) (d : Data) (conds : List Cond)
    → KnowsConditions l.texts d → conditions_in (view_columns relations 0 numbers) l.texts place d ≡ Ok conds → list_data (map (condition_data l relations numbers) conds) ≡ d

-- A view, written with every member, is read as the same view.
abbrev pub ViewsAreRead : Type 0
ViewsAreRead = (l : Labels) (basis : Basis) → l.texts ≡ basis.texts → (taken : List Text) (place : Place) (d : Data) (v : ViewForm) (view : View)
    → KnowsView l.texts d → view.parts ≡ v.parts → view_in basis taken place d ≡ Ok v → view_in basis taken place (view_data l basis.relations v.name view v.slots) ≡ Ok v

-- ---- sessions

abbrev pub SessionsAreWritten : Type 0
SessionsAreWritten = (place : Place) (d : Data) (names : List Text) → sessions_in place d ≡ Ok names → text_list names ≡ d

-- ---- schedules

abbrev pub NumbersAreWritten : Type 0
NumbersAreWritten = (least most : ℕ) (place : Place) (d : Data) (n : ℕ) → number_within least most place d ≡ Ok n → number_data n ≡ d

-- A schedule with a start and a number of steps is read again as the same.
abbrev pub PickedAreRead : Type 0
PickedAreRead = (place : Place) (d : Data) (start steps : ℕ) → picked_in place d ≡ Ok (Picked start steps) → picked_in place (picked_data start steps) ≡ Ok (Picked start steps)
