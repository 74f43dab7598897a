-- A relation that was read, written with every member, is read as the same relation.
use Rattle.std.proofs.Common.{◌≡◌, ℕ, List, [], ◌∷◌, map, Option, Some, None, Ok, refl, sym, ap, subst, ◌∙◌}
use Rattle.serde_json.specs.Data.{Data, string}
use Rattle.serde_json.specs.Find.{get}
use Rattle.whips_model.specs.Tuples.{Codes, Columns}
use Rattle.whips_model.specs.Relation.{Table}
use Rattle.whips_facts.specs.Scripts.{Labels}
use Rattle.whips_reports.specs.Lines.{name_at}
use Rattle.whips_reading.specs.declared.place.Code.TheVariants.{Shape}
use Rattle.whips_reading.specs.declared.place.Member.TheVariants as member
use Rattle.whips_reading.specs.declared.json.ObjectForm.TheVariants.{Relation}
use Rattle.whips_reading.specs.Json.{Text, is_object_of}
use Rattle.whips_reading.specs.Members.{is_member_of}
use Rattle.whips_reading.specs.Places.{Place, member_name, in_member}
use Rattle.whips_reading.specs.Reading.{Read, ◌>>=◌, within, within_or, read_or}
use Rattle.whips_reading.specs.Names.{fresh_name}
use Rattle.whips_relation_reading.specs.Columns.{NamedColumns, columns_in, key_in}
use Rattle.whips_relation_reading.specs.Rows.{rows_in}
use Rattle.whips_relation_reading.specs.Relations.{RelationForm, relation_names, no_rows, new_name, empty_relation, relation_in}
use Rattle.whips_script_laws.proofs.Parts.{bound, tested, member_read}
use Rattle.whips_script_writing.specs.Objects.{list_data, text_list}
use Rattle.whips_script_writing.specs.Relations.{columns_data, rows_data, relation_data}
use Rattle.whips_canonical_laws.specs.Known.{KnowsRows, KnowsRelation}
use Rattle.whips_canonical_laws.proofs.Lists.{same_value}
use Rattle.whips_canonical_laws.proofs.Values.{columns_written, key_written, fresh_written}
use Rattle.whips_canonical_laws.proofs.Rows.{rows_again, rows_kept, elements_back}

module _ (l : Labels) (relations : List RelationForm) (place : Place) where
  abbrev table_of : Columns → List Codes → Table
  table_of columns rows = record { columns = columns; rows = rows }

  abbrev form_of : Text → List Text → Table → RelationForm
  form_of name names table = record { name = name; columns = names; table = table }

  abbrev named_columns : List Text → Columns → NamedColumns
  named_columns names columns = record { names = names; kinds = columns.kinds }

  abbrev keyed_by : NamedColumns → Read (List ℕ) → Read (List Text × Table)
  keyed_by cols x = x >>= λ k. Ok (cols.names, no_rows cols k)

  abbrev with_key : Place → Data → NamedColumns → Read (List Text × Table)
  with_key pk dk cols = keyed_by cols (key_in cols.names pk dk)

  abbrev with_rows : Place → Data → Text → List Text × Table → Read RelationForm
  with_rows pr dr n p = rows_in l.texts p.1 pr dr >>= λ t. Ok (form_of n p.0 t)

  -- the members of the relation that is written are read one after another
  members_again : (name : Text) (names : List Text) (c : Columns) (rows : List Codes)
      → fresh_name (relation_names relations) (in_member place member.Name) (string name) ≡ Ok name
      → columns_in (in_member place member.Columns) (list_data (columns_data names c.kinds)) ≡ Ok (named_columns names c)
      → key_in names (in_member place member.Key) (text_list (map (name_at names) c.key)) ≡ Ok c.key
      → rows_in l.texts (table_of c []) (in_member place member.Rows) (list_data (rows_data l c.kinds rows)) ≡ Ok (table_of c rows)
      → relation_in l.texts relations place (relation_data l (form_of name names (table_of c rows))) ≡ Ok (form_of name names (table_of c rows))
  members_again name names c rows is_name are_columns is_key are_rows =
      let pc = in_member place member.Columns in
      let pk = in_member place member.Key in
      let pr = in_member place member.Rows in
      let dc = list_data (columns_data names c.kinds) in
      let dk = text_list (map (name_at names) c.key) in
      let dr = list_data (rows_data l c.kinds rows) in
      ap (λ (x : Read Text). x >>= λ n. (columns_in pc dc >>= with_key pk dk) >>= with_rows pr dr n) is_name
      ∙ ap (λ (x : Read NamedColumns). (x >>= with_key pk dk) >>= with_rows pr dr name) are_columns
      ∙ ap (λ (x : Read (List ℕ)). keyed_by (named_columns names c) x >>= with_rows pr dr name) is_key
      ∙ ap (λ (x : Read Table). x >>= λ t. Ok (form_of name names t)) are_rows

  -- rows that were read, or left out
  rows_or_none : (c : Columns) (d : Data) (t : Table) → KnowsRelation l.texts d → (o : Option Data) → get (member_name member.Rows) d ≡ o → read_or (table_of c []) (rows_in l.texts (table_of c []) (in_member place member.Rows)) o ≡ Ok t
      → (t.columns ≡ c) × (rows_in l.texts (table_of c []) (in_member place member.Rows) (list_data (rows_data l c.kinds t.rows)) ≡ Ok t)
  rows_or_none c d t known None f e = let same : table_of c [] ≡ t = cc in subst (λ (x : Table). (x.columns ≡ c) × (rows_in l.texts (table_of c []) (in_member place member.Rows) (list_data (rows_data l c.kinds x.rows)) ≡ Ok x)) same (refl, refl)
  rows_or_none c d t known (Some rows) f e = (rows_kept l c (in_member place member.Rows) rows t (known rows f) e, rows_again l c (in_member place member.Rows) rows t (known rows f) e)

  pub relation_again : (d : Data) (r : RelationForm) → KnowsRelation l.texts d → relation_in l.texts relations place d ≡ Ok r → relation_in l.texts relations place (relation_data l r) ≡ Ok r
  relation_again d r known e =
      let n = bound (new_name relations place d) _ r e in
      let o = tested (is_object_of (is_member_of Relation) d) Shape place _ n.0 n.1 in
      let name = member_read member.Name (fresh_name (relation_names relations)) place d n.0 o.1 in
      let c = bound (empty_relation place d) _ r n.2 in
      let cols = bound (within member.Columns columns_in place d) _ c.0 c.1 in
      let key = bound (within member.Key (key_in cols.0.names) place d) _ c.0 cols.2 in
      let pair : (cols.0.names, no_rows cols.0 key.0) ≡ c.0 = same_value _ _ key.2 in
      let t = bound (within_or c.0.1 member.Rows (rows_in l.texts c.0.1) place d) _ r c.2 in
      let is : form_of n.0 c.0.0 t.0 ≡ r = same_value _ _ t.2 in
      let columns : Columns = record { kinds = cols.0.kinds; key = key.0 } in
      let column = member_read member.Columns columns_in place d cols.0 cols.1 in
      let keys = member_read member.Key (key_in cols.0.names) place d key.0 key.1 in
      let table = subst (λ (p : List Text × Table). read_or p.1 (rows_in l.texts p.1 (in_member place member.Rows)) (get (member_name member.Rows) d) ≡ Ok t.0) (sym pair) t.1 in
      let rows = rows_or_none columns d t.0 known (get (member_name member.Rows) d) refl table in
      let whole : table_of columns t.0.rows ≡ t.0 = ap (λ (x : Columns). table_of x t.0.rows) (sym rows.0) in
      let again = members_again n.0 cols.0.names columns t.0.rows
      (ap (fresh_name (relation_names relations) (in_member place member.Name)) (fresh_written (relation_names relations) (in_member place member.Name) name.0 n.0 name.1) ∙ name.1)
      (ap (columns_in (in_member place member.Columns)) (columns_written (in_member place member.Columns) column.0 cols.0 column.1) ∙ column.1)
      (ap (key_in cols.0.names (in_member place member.Key)) (key_written cols.0.names (in_member place member.Key) keys.0 key.0 keys.1) ∙ keys.1)
      (rows.1 ∙ ap Ok (sym whole)) in
      let form : form_of n.0 cols.0.names (table_of columns t.0.rows) ≡ r = ap (λ x. form_of n.0 cols.0.names x) whole ∙ ap (λ (p : List Text × Table). form_of n.0 p.0 t.0) pair ∙ is in
      subst (λ (x : RelationForm). relation_in l.texts relations place (relation_data l x) ≡ Ok x) form again
