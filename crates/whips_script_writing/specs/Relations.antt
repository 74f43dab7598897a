-- Relations, updates and sources as JSON data.
use Rattle.std.specs.Prelude.{ℕ, ◌==◌, List, [], ◌∷◌, map, codes, slice_get, Option, Some, None, if◌then◌else◌}
use Rattle.serde_json.specs.Data.{Data, null, string}
use Rattle.whips_model.specs.declared.Kind.{Kind}
use Rattle.whips_model.specs.declared.Kind.TheVariants.{Number, Text as TextKind}
use Rattle.whips_model.specs.Tuples.{Codes, at_columns}
use Rattle.whips_rel.specs.declared.update.Update.{Update}
use Rattle.whips_rel.specs.declared.update.Update.TheVariants.{Insert, Delete}
use Rattle.whips_rel.specs.Updates.{relation_of}
use Rattle.whips_states.specs.States.{Updates}
use Rattle.whips_facts.specs.Scripts.{Labels}
use Rattle.whips_reports.specs.Lines.{name_at, row_data}
use Rattle.whips_reading.specs.declared.place.Member.TheVariants as member
use Rattle.whips_reading.specs.Json.{Text}
use Rattle.whips_relation_reading.specs.Relations.{RelationForm}
use Rattle.whips_update_reading.specs.Updates.{key_kinds}
use Rattle.whips_script_writing.specs.Objects.{list_data, text_list, object_data}

-- A list of values of these kinds: a number is its code, and a text is the one with this code.
abbrev pub values_data : Labels → List Kind → Codes → Data
values_data l kinds t = list_data (row_data l (map (λ k. Some k) kinds) t)

-- ---- relations

abbrev pub kind_text : Kind → Text
kind_text Number = codes "number"
kind_text TextKind = codes "text"

-- Columns: a pair of a name and a kind each.
abbrev pub columns_data : List Text → List Kind → List Data
columns_data [] kinds = []
columns_data (name ∷ names) [] = []
columns_data (name ∷ names) (kind ∷ kinds) = text_list (name ∷ kind_text kind ∷ []) ∷ columns_data names kinds

-- Rows, in the order of their keys.
abbrev pub rows_data : Labels → List Kind → List Codes → List Data
rows_data l kinds rows = map (values_data l kinds) rows

-- A relation with its initial rows.
abbrev pub relation_data : Labels → RelationForm → Data
relation_data l r = object_data (
    (member.Columns, list_data (columns_data r.columns r.table.columns.kinds))
    ∷ (member.Key, text_list (map (name_at r.columns) r.table.columns.key))
    ∷ (member.Name, string r.name)
    ∷ (member.Rows, list_data (rows_data l r.table.columns.kinds r.table.rows)) ∷ [])

-- ---- updates

-- What an update does, the name of the relation, and values of these kinds.
abbrev pub change_data : Labels → (word name : Text) → List Kind → Codes → Data
change_data l word name kinds t = list_data (string word ∷ string name ∷ values_data l kinds t ∷ [])

-- An update of the relation: an insert has the whole row, and a delete has its key.
abbrev pub update_in : Labels → Option RelationForm → Update → Data
update_in l None u = null
update_in l (Some r) (Insert n t) = change_data l (codes "insert") r.name r.table.columns.kinds t
update_in l (Some r) (Delete n t) = change_data l (codes "delete") r.name (key_kinds r.table.columns.kinds r.table.columns.key) (at_columns r.table.columns.key t)

abbrev pub update_data : Labels → List RelationForm → Update → Data
update_data l relations u = update_in l (slice_get relations (relation_of u)) u

-- A transaction of one update is that update, and one of more is a list of `all` and the list of them.
abbrev pub all_data : Labels → List RelationForm → Updates → Data
all_data l relations us = list_data (string (codes "all") ∷ list_data (map (update_data l relations) us) ∷ [])

abbrev pub transaction_data : Labels → List RelationForm → Updates → Data
transaction_data l relations (u ∷ []) = update_data l relations u
transaction_data l relations us = all_data l relations us

-- ---- sources

-- The relations whose source is y.
abbrev pub relations_of : ℕ → (homes : List ℕ) → List RelationForm → List RelationForm
relations_of y [] relations = []
relations_of y (home ∷ homes) [] = []
relations_of y (home ∷ homes) (r ∷ relations) = if home == y then r ∷ relations_of y homes relations else relations_of y homes relations

-- A source: its name, its own relations, and its transactions, whose updates name these among all relations.
abbrev pub source_data : Labels → (relations own : List RelationForm) → Text → List Updates → Data
source_data l relations own name transactions = object_data (
    (member.Name, string name)
    ∷ (member.Relations, list_data (map (relation_data l) own))
    ∷ (member.Updates, list_data (map (transaction_data l relations) transactions)) ∷ [])
