-- Relations, sources, views and schedules as they are written are plain, where they are read.
use Rattle.std.proofs.Common.{◌≡◌, ℕ, List, [], ◌∷◌, map, Ok, refl, arith}
use Rattle.std.specs.List.{AllByRecursion}
use Rattle.serde_json.specs.Data.{Data, string}
use Rattle.whips_model.specs.declared.Kind.{Kind}
use Rattle.whips_model.specs.declared.Cond.{Cond}
use Rattle.whips_states.specs.States.{Updates}
use Rattle.whips_setup.specs.declared.plan.Plan.{Plan}
use Rattle.whips_setup.specs.declared.plan.Plan.TheVariants.{Listed, Picked}
use Rattle.whips_view.specs.ViewDefs.{View}
use Rattle.whips_facts.specs.Scripts.{Labels}
use Rattle.whips_reports.specs.Lines.{name_at, words, event_words}
use Rattle.whips_reading.specs.declared.place.Member.TheVariants as member
use Rattle.whips_reading.specs.Json.{Text}
use Rattle.whips_reading.specs.Places.{Place, in_member, in_element}
use Rattle.whips_reading.specs.Reading.{triple, within, within_or, number_within}
use Rattle.whips_texts.specs.Values.{value_in}
use Rattle.whips_relation_reading.specs.Rows.{rows_in}
use Rattle.whips_relation_reading.specs.Relations.{RelationForm, relation_names, new_name, empty_relation, relation_in, relation_added, relations_added}
use Rattle.whips_update_reading.specs.Sources.{new_source_name, scope_of, begun, source_work, source_added}
use Rattle.whips_view_reading.specs.Columns.{ViewColumn, view_columns, column_named}
use Rattle.whips_view_reading.specs.Choices.{comparison_in, condition_added, equalities_in, conditions_in, Choice, choice_in}
use Rattle.whips_view_reading.specs.Views.{Basis, with_keys, keyed_choice, ViewForm, default_slots, named_view, numbers_in, parts_in, view_in}
use Rattle.whips_plan_reading.specs.Events.{Names}
use Rattle.whips_plan_reading.specs.Schedules.{schedule_in}
use Rattle.whips_script_laws.proofs.Parts.{bound}
use Rattle.whips_script_writing.specs.Objects.{number_data, list_data, text_list}
use Rattle.whips_script_writing.specs.Relations.{kind_text, columns_data, rows_data, relation_data, transaction_data, source_data}
use Rattle.whips_script_writing.specs.Scripts.{event_data, picked_data, schedule_data}
use Rattle.whips_script_writing.specs.Views.{column_text, equality_data, condition_data, view_data}
use Rattle.whips_plain_laws.proofs.Made.{IsPlainTo, deeper, text_plain, list_plain, each_of, list_of_plain, texts_plain, object_plain}
use Rattle.whips_plain_laws.proofs.Read.{word_plain, number_read_plain, value_plain, of_list, of_all, IsPlainIfRead, elements_plain, triple_plain, rows_plain}
use Rattle.whips_plain_laws.proofs.Updates.{transactions_plain}

-- ---- relations

columns_plain : (names : List Text) (kinds : List Kind) → AllByRecursion (IsPlainTo 1) (columns_data names kinds)
columns_plain [] kinds = tt
columns_plain (name ∷ names) [] = tt
columns_plain (name ∷ names) (kind ∷ kinds) = (texts_plain 0 (name ∷ kind_text kind ∷ []), columns_plain names kinds)

module _ (l : Labels) (texts : List Text) where
  relation_plain : (r form : RelationForm) (relations : List RelationForm) (place : Place) → relation_in texts relations place (relation_data l r) ≡ Ok form → IsPlainTo 3 (relation_data l r)
  relation_plain r form relations place e =
      let d = relation_data l r in
      let n = bound (new_name relations place d) _ form e in
      let c = bound (empty_relation place d) _ form n.2 in
      let t = bound (within_or c.0.1 member.Rows (rows_in texts c.0.1) place d) _ form c.2 in
      let columns = list_data (columns_data r.columns r.table.columns.kinds) in
      let key = text_list (map (name_at r.columns) r.table.columns.key) in
      let rows = list_data (rows_data l r.table.columns.kinds r.table.rows) in
      let are_columns = list_plain 1 (columns_data r.columns r.table.columns.kinds) (columns_plain r.columns r.table.columns.kinds) in
      let is_key = texts_plain 1 (map (name_at r.columns) r.table.columns.key) in
      let is_name = text_plain 2 r.name in
      let are_rows = rows_plain texts 0 c.0.1 (in_member place member.Rows) rows t.0 t.1 in
      object_plain 2 ((member.Columns, columns) ∷ (member.Key, key) ∷ (member.Name, string r.name) ∷ (member.Rows, rows) ∷ [])
      (refl, (refl, (refl, (refl, tt))))
      (are_columns, (is_key, (is_name, (are_rows, tt))))

  one_relation_plain : (r : RelationForm) → IsPlainIfRead 3 (relation_added texts) (relation_data l r)
  one_relation_plain r s t place e = let b = bound (relation_in texts s place (relation_data l r)) _ t e in relation_plain r b.0 s place b.1

  relations_plain : (own relations all : List RelationForm) (place : Place) → relations_added texts relations place (list_data (map (relation_data l) own)) ≡ Ok all → IsPlainTo 4 (list_data (map (relation_data l) own))
  relations_plain own relations all place e =
      let is_plain = IsPlainIfRead 3 (relation_added texts) in
      elements_plain 3 (relation_added texts) 1 4 place relations all (list_data (map (relation_data l) own)) (of_list is_plain (map (relation_data l) own) (each_of is_plain (relation_data l) one_relation_plain own)) e

  -- ---- sources

  pub source_plain : (relations own : List RelationForm) (name : Text) (transactions : List Updates) → IsPlainIfRead 6 (source_added texts) (source_data l relations own name transactions)
  source_plain relations own name transactions s t place e =
      let d = source_data l relations own name transactions in
      let n = bound (new_source_name s.names place d) _ t e in
      let r = bound (within member.Relations (relations_added texts s.relations) place d) _ t n.2 in
      let scope = scope_of texts s r.0 in
      let w = bound (source_work scope s.tables place d) _ t r.2 in
      let written = list_data (map (transaction_data l relations) transactions) in
      let is_name = text_plain 5 name in
      let are_relations = deeper 4 5 (list_data (map (relation_data l) own)) (omega arith) (relations_plain own s.relations r.0 (in_member place member.Relations) r.1) in
      let are_transactions = transactions_plain scope (in_member place member.Updates) written (begun scope s.tables) w.0 w.1 in
      object_plain 5 ((member.Name, string name) ∷ (member.Relations, list_data (map (relation_data l) own)) ∷ (member.Updates, written) ∷ [])
      (refl, (refl, (refl, tt)))
      (is_name, (are_relations, (are_transactions, tt)))

-- ---- views

module _ (columns : List ViewColumn) (texts : List Text) where
  condition_plain : (d : Data) → IsPlainIfRead 1 (condition_added columns texts) d
  condition_plain d s t place e =
      let p = bound (triple place d) _ t e in
      let c = bound (column_named columns (in_element place 0) p.0.0) _ t p.2 in
      let m = bound (comparison_in (in_element place 1) p.0.1) _ t c.2 in
      let v = bound (value_in texts c.0.kind (in_element place 2) p.0.2) _ t m.2 in
      triple_plain 0 place d p.0.0 p.0.1 p.0.2 p.1 (word_plain 0 (in_element place 0) p.0.0 _ c.0 c.1) (word_plain 0 (in_element place 1) p.0.1 _ m.0 m.1) (value_plain 0 texts c.0.kind (in_element place 2) p.0.2 v.0 v.1)

  conditions_plain : (place : Place) (d : Data) (conds : List Cond) → conditions_in columns texts place d ≡ Ok conds → IsPlainTo 2 d
  conditions_plain place d conds e = elements_plain 1 (condition_added columns texts) 0 16 place [] conds d (of_all (IsPlainIfRead 1 (condition_added columns texts)) condition_plain d) e

  conditions_read : (place : Place) (d : Data) (choice : Choice) → choice_in columns texts place d ≡ Ok choice → (conds : List Cond) × (within_or [] member.Where (conditions_in columns texts) place d ≡ Ok conds)
  conditions_read place d choice e =
      let equal = bound (within_or [] member.Equal (equalities_in columns) place d) _ choice e in
      let conds = bound (within_or [] member.Where (conditions_in columns texts) place d) _ choice equal.2 in
      (conds.0, conds.1)

-- the conditions and the slots of a view that was read were read
record IsViewRead (basis : Basis) (place : Place) (d : Data) : Type 0 where
  numbers : List ℕ
  conds : List Cond
  slots : ℕ
  conds_read : within_or [] member.Where (conditions_in (view_columns basis.relations 0 numbers) basis.texts) place d ≡ Ok conds
  slots_read : within_or default_slots member.Slots (number_within 1 4096) place d ≡ Ok slots

view_read : (basis : Basis) (taken : List Text) (place : Place) (d : Data) (form : ViewForm) → view_in basis taken place d ≡ Ok form → IsViewRead basis place d
view_read basis taken place d form e =
    let name = bound (named_view taken place d) _ form e in
    let parts = bound (parts_in basis place d) _ form name.2 in
    let slots = bound (within_or default_slots member.Slots (number_within 1 4096) place d) _ form parts.2 in
    let numbers = bound (numbers_in basis place d) _ parts.0 parts.1 in
    let columns = view_columns basis.relations 0 numbers.0 in
    let keyed = bound (keyed_choice basis numbers.0 place d) _ parts.0 numbers.2 in
    let choice = bound (choice_in columns basis.texts place d) (with_keys basis.relations numbers.0 place) keyed.0 keyed.1 in
    let conds = conditions_read columns basis.texts place d choice.0 choice.1 in
    record { numbers = numbers.0; conds = conds.0; slots = slots.0; conds_read = conds.1; slots_read = slots.1 }

pub view_plain : (l : Labels) (relations : List RelationForm) (name : Text) (view : View) (slots : ℕ) (basis : Basis) (taken : List Text) (place : Place) (form : ViewForm)
    → view_in basis taken place (view_data l relations name view slots) ≡ Ok form → IsPlainTo 3 (view_data l relations name view slots)
view_plain l relations name view slots basis taken place form e =
    let r = view_read basis taken place (view_data l relations name view slots) form e in
    let numbers = view.parts.relations in
    let equal = list_data (map (equality_data relations numbers) view.parts.equal) in
    let out = text_list (map (column_text relations numbers) view.parts.out) in
    let own = text_list (map (name_at (relation_names relations)) numbers) in
    let conds = list_data (map (condition_data l relations numbers) view.parts.conds) in
    let are_equal = list_of_plain 1 (equality_data relations numbers) (λ q. texts_plain 0 (column_text relations numbers q.0 ∷ column_text relations numbers q.1 ∷ [])) view.parts.equal in
    let is_name = text_plain 2 name in
    let are_out = texts_plain 1 (map (column_text relations numbers) view.parts.out) in
    let are_own = texts_plain 1 (map (name_at (relation_names relations)) numbers) in
    let are_slots = number_read_plain 2 1 4096 (omega arith) (in_member place member.Slots) (number_data slots) r.slots r.slots_read in
    let are_conds = conditions_plain (view_columns basis.relations 0 r.numbers) basis.texts (in_member place member.Where) conds r.conds r.conds_read in
    object_plain 2 ((member.Equal, equal) ∷ (member.Name, string name) ∷ (member.Out, out) ∷ (member.Relations, own) ∷ (member.Slots, number_data slots) ∷ (member.Where, conds) ∷ [])
    (refl, (refl, (refl, (refl, (refl, (refl, tt))))))
    (are_equal, (is_name, (are_out, (are_own, (are_slots, (are_conds, tt))))))

-- ---- schedules

pub schedule_plain : (l : Labels) (plan form : Plan) (names : Names) (place : Place) → schedule_in names place (schedule_data l plan) ≡ Ok form → IsPlainTo 2 (schedule_data l plan)
schedule_plain l (Listed events) form names place e = object_plain 1 ((member.Events, list_data (map (event_data l) events)) ∷ []) (refl, tt) (list_of_plain 0 (event_data l) (λ event. text_plain 0 (words (event_words l event))) events, tt)
schedule_plain l (Picked start steps) form names place e =
    let d = picked_data start steps in
    let a = bound (within member.Start (number_within 0 4294967295) place d) _ form e in
    let b = bound (within member.Steps (number_within 0 65536) place d) _ form a.2 in
    let is_start = number_read_plain 1 0 4294967295 (omega arith) (in_member place member.Start) (number_data start) a.0 a.1 in
    let are_steps = number_read_plain 1 0 65536 (omega arith) (in_member place member.Steps) (number_data steps) b.0 b.1 in
    object_plain 1 ((member.Start, number_data start) ∷ (member.Steps, number_data steps) ∷ []) (refl, (refl, tt)) (is_start, (are_steps, tt))
