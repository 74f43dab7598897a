-- A relation that was read, written with every member, has the same texts.
--
-- `relation_texts_stay` is the law. Each row that was read is written as the data that it was read from, at its place in the order of keys
-- (`rows_made`); a row that is put at its place adds its texts as if it stood last, since the texts of rows can be added in any order (`put_last`).
use Rattle.std.proofs.Common.{◌≡◌, ℕ, ◌+◌, true, List, [], ◌∷◌, map, Option, Some, None, Ok, refl, sym, ap, subst, ◌∙◌}
use Rattle.std.specs.Prelude.{fold, is_none}
use Rattle.std.specs.List.{AllByRecursion}
use Rattle.std.specs.Ordering.{match_ordering, is_eq}
use Rattle.std.specs.declared.cmp.Ordering.TheVariants.{Less, Equal, Greater}
use Rattle.std.proofs.lemmas.Cmp.{nat_list_cmp_total, tied_back}
use Rattle.serde_json.specs.Data.{Data}
use Rattle.serde_json.specs.Find.{get}
use Rattle.whips_model.specs.Tuples.{Codes, Columns, codes_cmp, at_columns, has_key, row_at, put_row}
use Rattle.whips_model.specs.Relation.{Table}
use Rattle.whips_facts.specs.Scripts.{Labels}
use Rattle.whips_reading.specs.declared.place.Code.TheVariants.{Key}
use Rattle.whips_reading.specs.declared.place.Member.TheVariants as member
use Rattle.whips_reading.specs.Json.{Text}
use Rattle.whips_reading.specs.Places.{Place, member_name, in_member, in_element}
use Rattle.whips_reading.specs.Reading.{elements, elements_of, in_turn, within, within_or, read_or}
use Rattle.whips_reading.proofs.Documents.{list_of-items_of}
use Rattle.whips_texts.specs.Dictionary.{with_each_of, with_found, with_values, with_rows, with_relation}
use Rattle.whips_relation_reading.specs.Columns.{columns_in, key_in}
use Rattle.whips_relation_reading.specs.Rows.{values, row_added, rows_in}
use Rattle.whips_relation_reading.specs.Relations.{RelationForm, no_rows, new_name, empty_relation, relation_in}
use Rattle.whips_script_laws.proofs.Parts.{bound, tested}
use Rattle.whips_script_laws.proofs.Appended.{test_failed}
use Rattle.whips_script_writing.specs.Objects.{list_data}
use Rattle.whips_script_writing.specs.Relations.{values_data, rows_data, relation_data}
use Rattle.whips_canonical_laws.specs.Known.{KnowsEach, KnowsRelation}
use Rattle.whips_canonical_laws.proofs.Lists.{listed_is, elements_listed, same_value}
use Rattle.whips_canonical_laws.proofs.Values.{row_written}
use Rattle.whips_canonical_laws.proofs.Rows.{rows_kept}
use Rattle.whips_text_laws.proofs.Commuting.{Adding, Commute, folded, rows_commute}

-- ---- a list that is written

pub elements_written : (ds : List Data) → elements_of (list_data ds) ≡ Some ds
elements_written ds = ap Some (list_of-items_of ds)

-- ---- a row that is put

module _ (data_of : Codes → Data) (f : Adding) (h : Commute f f) (key : List ℕ) where
  put_last : (t : Codes) (rows : List Codes) (s : List Text) → row_at key (at_columns key t) rows ≡ None → fold f s (map data_of (put_row key t rows)) ≡ f (fold f s (map data_of rows)) (data_of t)
  put_last t [] s none = refl
  put_last t (u ∷ rows) s none =
      let k = at_columns key t in
      let m = test_failed (has_key key k u) u (row_at key k rows) none in
      elim (codes_cmp k (at_columns key u)) as (λ o. codes_cmp k (at_columns key u) ≡ o → fold f s (map data_of (match_ordering o (t ∷ u ∷ rows) (t ∷ rows) (u ∷ put_row key t rows))) ≡ f (fold f s (map data_of (u ∷ rows))) (data_of t)) [
        | Less ↦ λ e. ap (λ x. fold f x (map data_of rows)) (h s (data_of u) (data_of t)) ∙ folded f f h (map data_of rows) (f s (data_of u)) (data_of t)
        | Equal ↦ λ e. let tied = ap is_eq (tied_back nat_list_cmp_total k (at_columns key u) e) in let differs = m.0 in absurd (cc)
        | Greater ↦ λ e. put_last t rows (f s (data_of u)) m.1
      ] refl

-- ---- rows that were read

none_is : (o : Option Codes) → is_none o ≡ true → o ≡ None
none_is None e = refl
none_is (Some t) e = absurd (cc)

module _ (l : Labels) (columns : Columns) where
  abbrev table_of : List Codes → Table
  table_of rows = record { columns = columns; rows = rows }

  rows_made : (place : Place) (i : ℕ) (rows : List Codes) (t : Table) (ds : List Data) → AllByRecursion (KnowsEach l.texts) ds → in_turn (row_added l.texts) place i (table_of rows) ds ≡ Ok t → (s : List Text)
      → fold with_values s (rows_data l columns.kinds t.rows) ≡ fold with_values (fold with_values s (rows_data l columns.kinds rows)) ds
  rows_made place i rows t [] known e s = let same : table_of rows ≡ t = same_value _ _ e in ap (λ (x : Table). fold with_values s (rows_data l columns.kinds x.rows)) (sym same)
  rows_made place i rows t (d ∷ ds) known e s =
      let b = bound (row_added l.texts (table_of rows) (in_element place i) d) (λ u. in_turn (row_added l.texts) place (i + 1) u ds) t e in
      let v = bound (values l.texts columns.kinds (in_element place i) d) _ b.0 b.1 in
      let c = tested (is_none (row_at columns.key (at_columns columns.key v.0) rows)) Key (in_element place i) _ b.0 v.2 in
      let same : table_of (put_row columns.key v.0 rows) ≡ b.0 = same_value _ _ c.1 in
      let rest = rows_made place (i + 1) (put_row columns.key v.0 rows) t ds known.1 (ap (λ x. in_turn (row_added l.texts) place (i + 1) x ds) same ∙ b.2) s in
      let put = put_last (values_data l columns.kinds) with_values rows_commute columns.key v.0 rows s (none_is _ c.0) in
      let row = row_written l columns.kinds (in_element place i) d v.0 known.0 v.1 in
      rest ∙ ap (λ x. fold with_values x ds) (put ∙ ap (with_values (fold with_values s (rows_data l columns.kinds rows))) row)

  -- the texts of rows that were read, or left out
  rows_stay : (place : Place) (d : Data) (t : Table) → KnowsRelation l.texts d → (o : Option Data) → get (member_name member.Rows) d ≡ o → read_or (table_of []) (rows_in l.texts (table_of []) place) o ≡ Ok t
      → (s : List Text) → with_rows s (list_data (rows_data l t.columns.kinds t.rows)) ≡ with_found with_rows s o
  rows_stay place d t known None f e s = let same : table_of [] ≡ t = same_value _ _ e in ap (λ (x : Table). with_rows s (list_data (rows_data l x.columns.kinds x.rows))) (sym same)
  rows_stay place d t known (Some rows) f e s =
      let b = bound (elements 0 4096 place rows) _ t e in
      let ds = listed_is place rows b.0 (elements_listed 0 4096 place rows b.0 b.1) in
      let made = rows_made place 0 [] t b.0 (known rows f b.0 ds) b.2 s in
      ap (λ (c : Columns). with_rows s (list_data (rows_data l c.kinds t.rows))) (rows_kept l columns place rows t (known rows f) e)
      ∙ ap (with_each_of with_values s) (elements_written (rows_data l columns.kinds t.rows))
      ∙ made ∙ ap (with_each_of with_values s) (sym ds)

pub relation_texts_stay : (l : Labels) (relations : List RelationForm) (place : Place) (d : Data) (r : RelationForm) → KnowsRelation l.texts d → relation_in l.texts relations place d ≡ Ok r → (texts : List Text) → with_relation texts (relation_data l r) ≡ with_relation texts d
relation_texts_stay l relations place d r known e texts =
    let n = bound (new_name relations place d) _ r e in
    let c = bound (empty_relation place d) _ r n.2 in
    let cols = bound (within member.Columns columns_in place d) _ c.0 c.1 in
    let key = bound (within member.Key (key_in cols.0.names) place d) _ c.0 cols.2 in
    let pair : (cols.0.names, no_rows cols.0 key.0) ≡ c.0 = same_value _ _ key.2 in
    let t = bound (within_or c.0.1 member.Rows (rows_in l.texts c.0.1) place d) _ r c.2 in
    let is : (let x : RelationForm = record { name = n.0; columns = c.0.0; table = t.0 } in x) ≡ r = same_value _ _ t.2 in
    let columns : Columns = record { kinds = cols.0.kinds; key = key.0 } in
    let table = subst (λ (p : List Text × Table). read_or p.1 (rows_in l.texts p.1 (in_member place member.Rows)) (get (member_name member.Rows) d) ≡ Ok t.0) (sym pair) t.1 in
    let rows = rows_stay l columns (in_member place member.Rows) d t.0 known (get (member_name member.Rows) d) refl table texts in
    subst (λ (x : RelationForm). with_relation texts (relation_data l x) ≡ with_relation texts d) is rows
