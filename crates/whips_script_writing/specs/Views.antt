-- Views as JSON data.
use Rattle.std.specs.Prelude.{ℕ, List, [], ◌∷◌, map, codes, slice_get, Option, Some, None, option_and_then}
use Rattle.serde_json.specs.Data.{Data, null, string}
use Rattle.whips_model.specs.declared.ColRef.{ColRef}
use Rattle.whips_model.specs.declared.Cmp.{Cmp}
use Rattle.whips_model.specs.declared.Cmp.TheVariants.{Eq, Ne, Lt, Le, Gt, Ge}
use Rattle.whips_model.specs.declared.Cond.{Cond}
use Rattle.whips_view.specs.ViewDefs.{View}
use Rattle.whips_facts.specs.Scripts.{Labels}
use Rattle.whips_reports.specs.Lines.{name_at, value_data}
use Rattle.whips_reading.specs.declared.place.Member.TheVariants as member
use Rattle.whips_reading.specs.Json.{Text}
use Rattle.whips_relation_reading.specs.Relations.{RelationForm, relation_names}
use Rattle.whips_view_reading.specs.Columns.{qualified}
use Rattle.whips_script_writing.specs.Objects.{number_data, list_data, text_list, object_data}

abbrev pub comparison_text : Cmp → Text
comparison_text Eq = codes "="
comparison_text Ne = codes "!="
comparison_text Lt = codes "<"
comparison_text Le = codes "<="
comparison_text Gt = codes ">"
comparison_text Ge = codes ">="

-- The name of a column with its relation's.
abbrev pub column_in : Option RelationForm → ℕ → Text
column_in None col = []
column_in (Some r) col = qualified r.name (name_at r.columns col)

-- The name of a column of these relations of a script.
abbrev pub column_text : List RelationForm → (numbers : List ℕ) → ColRef → Text
column_text relations numbers at = column_in (option_and_then (slice_get relations) (slice_get numbers at.part)) at.col

-- An equality: the names of its two columns.
abbrev pub equality_data : List RelationForm → (numbers : List ℕ) → (ColRef × ColRef) → Data
equality_data relations numbers pair = text_list (column_text relations numbers pair.0 ∷ column_text relations numbers pair.1 ∷ [])

-- A condition: the name of its column, a comparison, and a value.
abbrev pub condition_data : Labels → List RelationForm → (numbers : List ℕ) → Cond → Data
condition_data l relations numbers cond = list_data (string (column_text relations numbers cond.at) ∷ string (comparison_text cond.cmp) ∷ value_data l cond.code (Some cond.kind) ∷ [])

-- A view with its name and its slots.
abbrev pub view_data : Labels → List RelationForm → Text → View → (slots : ℕ) → Data
view_data l relations name view slots = object_data (
    (member.Equal, list_data (map (equality_data relations view.parts.relations) view.parts.equal))
    ∷ (member.Name, string name)
    ∷ (member.Out, text_list (map (column_text relations view.parts.relations) view.parts.out))
    ∷ (member.Relations, text_list (map (name_at (relation_names relations)) view.parts.relations))
    ∷ (member.Slots, number_data slots)
    ∷ (member.Where, list_data (map (condition_data l relations view.parts.relations) view.parts.conds)) ∷ [])

-- The view that there may be.
abbrev pub view_in : Labels → List RelationForm → Text → Option View → (slots : ℕ) → Data
view_in l relations name None slots = null
view_in l relations name (Some view) slots = view_data l relations name view slots
