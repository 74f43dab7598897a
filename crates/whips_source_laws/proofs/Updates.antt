-- An update that was read is written as the very data that it was read from.
use Rattle.std.proofs.Common.{◌≡◌, ℕ, zero, suc, ◌+◌, ◌<◌, codes, List, [], ◌∷◌, length, map, slice_get, is_none, Some, Ok, refl, sym, ap, subst, ◌∙◌, arith}
use Rattle.std.specs.Prelude.{option_map}
use Rattle.std.proofs.lemmas.List.{length-map}
use Rattle.std.proofs.lemmas.Option.{slice_get-map}
use Rattle.serde_json.specs.Data.{Data, string}
use Rattle.whips_lists.specs.Lists.{changed_at}
use Rattle.whips_lists.proofs.Options.{some_same}
use Rattle.whips_model.specs.Tuples.{Columns, at_columns, row_at}
use Rattle.whips_model.specs.Relation.{Table}
use Rattle.whips_choices.proofs.Rows.{row_found}
use Rattle.whips_rel.specs.declared.update.Update.{Update}
use Rattle.whips_rel.specs.declared.update.Update.TheVariants.{Insert, Delete}
use Rattle.whips_states.specs.States.{with_row, without_row, updated}
use Rattle.whips_facts.specs.Scripts.{Labels}
use Rattle.whips_reports.specs.Lines.{name_at}
use Rattle.whips_reading.specs.declared.place.Code.TheVariants.{Name, Present, Absent}
use Rattle.whips_reading.specs.Json.{Text}
use Rattle.whips_reading.specs.Places.{Place, in_element}
use Rattle.whips_reading.specs.Reading.{there, triple}
use Rattle.whips_reading.specs.Names.{text_in, named}
use Rattle.whips_relation_reading.specs.Rows.{values}
use Rattle.whips_relation_reading.specs.Relations.{RelationForm, relation_names}
use Rattle.whips_update_reading.specs.declared.target.Change.{Change}
use Rattle.whips_update_reading.specs.declared.target.Change.TheVariants.{Insertion, Deletion}
use Rattle.whips_update_reading.specs.declared.target.Target.{Target}
use Rattle.whips_update_reading.specs.Updates.{key_kinds, change_of, change_in, row_inserted, row_deleted, update_of, update_at, Scope, Work, with_update, target_in, update_from, update_added}
use Rattle.whips_script_laws.proofs.Parts.{bound, tested, there_is}
use Rattle.whips_script_laws.proofs.Viewed.{named_below}
use Rattle.whips_script_writing.specs.Objects.{list_data}
use Rattle.whips_script_writing.specs.Relations.{values_data, update_in, update_data}
use Rattle.whips_canonical_laws.specs.Known.{KnowsEach, KnowsValues, KnowsUpdate}
use Rattle.whips_canonical_laws.proofs.Lists.{by_word, same_value, text_written, name_written, listed_is, listed_written, triple_listed}
use Rattle.whips_canonical_laws.proofs.Values.{row_written}

-- ---- the columns of relations

abbrev pub columns_of : List Table → List Columns
columns_of tables = map (λ t. t.columns) tables

-- they stay when rows come and go
columns_changed : (f : Table → Table) → ((t : Table) → (f t).columns ≡ t.columns) → (r : ℕ) (tables : List Table) → columns_of (changed_at r f tables) ≡ columns_of tables
columns_changed f keeps r [] = refl
columns_changed f keeps zero (t ∷ tables) = ap (λ c. c ∷ columns_of tables) (keeps t)
columns_changed f keeps (suc r) (t ∷ tables) = ap (λ cs. t.columns ∷ cs) (columns_changed f keeps r tables)

pub columns_kept : (tables : List Table) (u : Update) → columns_of (updated tables u) ≡ columns_of tables
columns_kept tables (Insert r t) = columns_changed (with_row t) (λ x. refl) r tables
columns_kept tables (Delete r t) = columns_changed (without_row t) (λ x. refl) r tables

-- ---- the relations of a source

-- A source's own relations stand among all relations, and their columns among these, from this place on.
pub record Stands (first : ℕ) (own relations : List RelationForm) (columns : List Columns) : Type 0 where
  pub relation : (r : ℕ) (f : RelationForm) → slice_get own r ≡ Some f → slice_get relations (first + r) ≡ Some f
  pub column : (r : ℕ) (f : RelationForm) → slice_get own r ≡ Some f → slice_get columns (first + r) ≡ Some f.table.columns

name_form : (own : List RelationForm) (r : ℕ) → r < length own → (f : RelationForm) × (slice_get own r ≡ Some f) × (f.name ≡ name_at (relation_names own) r)
name_form [] r h = absurd (omega arith)
name_form (f ∷ own) zero h = (f, refl, refl)
name_form (f ∷ own) (suc r) h = name_form own r (omega arith)

-- ---- one update

three_are : {x y z a b c : Data} → x ≡ a → y ≡ b → z ≡ c → list_data (x ∷ y ∷ z ∷ []) ≡ list_data (a ∷ b ∷ c ∷ [])
three_are {x = x} {y = y} {a = a} {b = b} {c = c} e f g = ap (λ w. list_data (x ∷ y ∷ w ∷ [])) g ∙ ap (λ w. list_data (x ∷ w ∷ c ∷ [])) f ∙ ap (λ w. list_data (w ∷ b ∷ c ∷ [])) e

module _ (l : Labels) (relations : List RelationForm) where
  -- an update of relation q, which is f, on its rows so far
  module _ (f : RelationForm) (table : Table) (q : ℕ) (stands : slice_get relations q ≡ Some f) (columns : table.columns ≡ f.table.columns) (place : Place) (a b c : Data) (u : Update) (name : string f.name ≡ b) (known : KnowsEach l.texts c) where
    insert_written : string (codes "insert") ≡ a → update_of l.texts table q Insertion place c ≡ Ok u → update_data l relations u ≡ list_data (a ∷ b ∷ c ∷ [])
    insert_written word e =
        let t = bound (row_inserted l.texts table place c) _ u e in
        let v = bound (values l.texts table.columns.kinds (in_element place 2) c) _ t.0 t.1 in
        let n = tested (is_none (row_at table.columns.key (at_columns table.columns.key v.0) table.rows)) Present place _ t.0 v.2 in
        let row : v.0 ≡ t.0 = same_value _ _ n.1 in
        let is : Insert q t.0 ≡ u = same_value _ _ t.2 in
        let row_is : values_data l f.table.columns.kinds v.0 ≡ c = ap (λ (x : Columns). values_data l x.kinds v.0) (sym columns) ∙ row_written l table.columns.kinds (in_element place 2) c v.0 known v.1 in
        ap (update_data l relations) (sym is ∙ ap (λ x. Insert q x) (sym row)) ∙ ap (λ o. update_in l o (Insert q v.0)) stands ∙ three_are word name row_is

    delete_written : string (codes "delete") ≡ a → update_of l.texts table q Deletion place c ≡ Ok u → update_data l relations u ≡ list_data (a ∷ b ∷ c ∷ [])
    delete_written word e =
        let t = bound (row_deleted l.texts table place c) _ u e in
        let k = bound (values l.texts (key_kinds table.columns.kinds table.columns.key) (in_element place 2) c) _ t.0 t.1 in
        let found = row_found table.columns.key k.0 t.0 table.rows (there_is (row_at table.columns.key k.0 table.rows) Absent place t.0 k.2) in
        let is : Delete q t.0 ≡ u = same_value _ _ t.2 in
        let key_is : values_data l (key_kinds f.table.columns.kinds f.table.columns.key) (at_columns f.table.columns.key t.0) ≡ c =
        ap (λ (x : Columns). values_data l (key_kinds x.kinds x.key) (at_columns x.key t.0)) (sym columns)
        ∙ ap (values_data l (key_kinds table.columns.kinds table.columns.key)) found.1
        ∙ row_written l (key_kinds table.columns.kinds table.columns.key) (in_element place 2) c k.0 known k.1
        in
        ap (update_data l relations) (sym is) ∙ ap (λ o. update_in l o (Delete q t.0)) stands ∙ three_are word name key_is

    change_written : (word : Text) (change : Change) → string word ≡ a → change_of (in_element place 0) word ≡ Ok change → update_of l.texts table q change place c ≡ Ok u → update_data l relations u ≡ list_data (a ∷ b ∷ c ∷ [])
    change_written word change word_is change_is e =
        by_word word (codes "insert") _ _ (Ok change) change_is
        (λ same g. insert_written (ap string (sym same) ∙ word_is) (ap (λ x. update_of l.texts table q x place c) (same_value Insertion change g) ∙ e))
        (λ g. by_word word (codes "delete") _ _ (Ok change) g
        (λ same h. delete_written (ap string (sym same) ∙ word_is) (ap (λ x. update_of l.texts table q x place c) (same_value Deletion change h) ∙ e))
        (λ h. absurd (cc)))

-- what the updates of a source are read with
abbrev pub scope_at : Labels → ℕ → List RelationForm → Scope
scope_at l first own = record { texts = l.texts; relations = own; first = first }

module _ (l : Labels) (first : ℕ) (own relations : List RelationForm) (columns : List Columns) (stands : Stands first own relations columns) where
  pub update_written : (s t : Work) (place : Place) (d : Data) → KnowsUpdate l.texts d → columns_of s.tables ≡ columns → update_added (scope_at l first own) s place d ≡ Ok t → (u : Update) × (t ≡ with_update s u) × (update_data l relations u ≡ d)
  update_written s t place d known are e =
      let scope = scope_at l first own in
      let x = bound (triple place d) (update_from scope s place) t e in
      let a = x.0.0 in
      let b = x.0.1 in
      let c = x.0.2 in
      let three = triple_listed place d a b c x.1 in
      let knows : KnowsEach l.texts c = subst (KnowsValues l.texts) (listed_is place d (a ∷ b ∷ c ∷ []) three) known in
      let target = bound (target_in scope place a b) _ t x.2 in
      let u = bound (update_at l.texts s.tables target.0.relation target.0.change place c) _ t target.2 in
      let change = bound (change_in (in_element place 0) a) _ target.0 target.1 in
      let word = bound (text_in (in_element place 0) a) (change_of (in_element place 0)) change.0 change.1 in
      let r = bound (named (relation_names own) (in_element place 1) b) _ target.0 change.2 in
      let q = first + r.0 in
      let below = named_below (relation_names own) (in_element place 1) b r.0 r.1 in
      let names = length-map own (λ (y : RelationForm). y.name) in
      let f = name_form own r.0 (omega (arith, below, names)) in
      let made : Target = record { change = change.0; relation = q } in
      let update : update_at l.texts s.tables q change.0 place c ≡ Ok u.0 = ap (λ (y : Target). update_at l.texts s.tables y.relation y.change place c) (same_value made target.0 r.2) ∙ u.1 in
      let table = bound (there (slice_get s.tables q) Name (in_element place 1)) (λ y. update_of l.texts y q change.0 place c) u.0 update in
      let at = there_is (slice_get s.tables q) Name (in_element place 1) table.0 table.1 in
      let same : table.0.columns ≡ f.0.table.columns =
      some_same _ _ (sym (slice_get-map (λ (y : Table). y.columns) s.tables q ∙ ap (option_map (λ (y : Table). y.columns)) at) ∙ ap (λ cs. slice_get cs q) are ∙ stands.column r.0 f.0 f.1)
      in
      let name : string f.0.name ≡ b = ap string f.2 ∙ name_written (relation_names own) (in_element place 1) b r.0 r.1 in
      let data_is = change_written l relations f.0 table.0 q (stands.relation r.0 f.0 f.1) same place a b c u.0 name knows word.0 change.0 (text_written (in_element place 0) a word.0 word.1) word.2 table.2 in
      (u.0, sym (same_value _ _ u.2), data_is ∙ listed_written place d (a ∷ b ∷ c ∷ []) three)
