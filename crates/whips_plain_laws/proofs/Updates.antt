-- Transactions that were read are plain.
use Rattle.std.proofs.Common.{◌≡◌, ℕ, List, [], ◌∷◌, Ok, subst, arith, codes, slice_get}
use Rattle.serde_json.specs.Data.{Data}
use Rattle.whips_model.specs.Relation.{Table}
use Rattle.whips_rel.specs.declared.update.Update.{Update}
use Rattle.whips_reading.specs.declared.place.Code.TheVariants.{Shape, Name}
use Rattle.whips_reading.specs.Json.{Text, is_text}
use Rattle.whips_reading.specs.Places.{Place, in_element}
use Rattle.whips_reading.specs.Reading.{there, listed, triple}
use Rattle.whips_reading.specs.Names.{named}
use Rattle.whips_relation_reading.specs.Rows.{values}
use Rattle.whips_relation_reading.specs.Relations.{relation_names}
use Rattle.whips_update_reading.specs.declared.target.Change.{Change}
use Rattle.whips_update_reading.specs.declared.target.Change.TheVariants.{Insertion, Deletion}
use Rattle.whips_update_reading.specs.Updates.{key_kinds, change_in, row_inserted, row_deleted, update_of, update_at, Scope, Work, target_in, update_from, update_added, updates_added, entry_from, entry_added, transaction_added, transactions_added}
use Rattle.whips_script_laws.proofs.Parts.{bound, tested}
use Rattle.whips_canonical_laws.proofs.Lists.{listed_written}
use Rattle.whips_plain_laws.proofs.Made.{IsPlainTo, deeper, list_plain}
use Rattle.whips_plain_laws.proofs.Read.{word_plain, same_text_plain, of_all, IsPlainIfRead, elements_plain, triple_plain, values_plain}

change_plain : (texts : List Text) (table : Table) (r : ℕ) (change : Change) (place : Place) (d : Data) (u : Update) → update_of texts table r change place d ≡ Ok u → IsPlainTo 1 d
change_plain texts table r Insertion place d u e =
    let t = bound (row_inserted texts table place d) _ u e in
    let v = bound (values texts table.columns.kinds (in_element place 2) d) _ t.0 t.1 in
    values_plain texts 0 table.columns.kinds (in_element place 2) d v.0 v.1
change_plain texts table r Deletion place d u e =
    let t = bound (row_deleted texts table place d) _ u e in
    let kinds = key_kinds table.columns.kinds table.columns.key in
    let v = bound (values texts kinds (in_element place 2) d) _ t.0 t.1 in
    values_plain texts 0 kinds (in_element place 2) d v.0 v.1

module _ (scope : Scope) where
  update_plain : (d : Data) → IsPlainIfRead 2 (update_added scope) d
  update_plain d s t place e =
      let p = bound (triple place d) (update_from scope s place) t e in
      let target = bound (target_in scope place p.0.0 p.0.1) _ t p.2 in
      let change = bound (change_in (in_element place 0) p.0.0) _ target.0 target.1 in
      let name = bound (named (relation_names scope.relations) (in_element place 1) p.0.1) _ target.0 change.2 in
      let u = bound (update_at scope.texts s.tables target.0.relation target.0.change place p.0.2) _ t target.2 in
      let table = bound (there (slice_get s.tables target.0.relation) Name (in_element place 1)) _ u.0 u.1 in
      triple_plain 1 place d p.0.0 p.0.1 p.0.2 p.1 (word_plain 1 (in_element place 0) p.0.0 _ change.0 change.1) (word_plain 1 (in_element place 1) p.0.1 _ name.0 name.1)
      (change_plain scope.texts table.0 target.0.relation target.0.change place p.0.2 u.0 table.2)

  updates_plain : (place : Place) (d : Data) (s t : Work) → updates_added scope s place d ≡ Ok t → IsPlainTo 3 d
  updates_plain place d s t e = elements_plain 2 (update_added scope) 1 16 place s t d (of_all (IsPlainIfRead 2 (update_added scope)) update_plain d) e

  -- an entry is a list of `all` and updates, or an update
  entry_plain : (place : Place) (d : Data) (s t : Work) (ds : List Data) → listed place d ≡ Ok ds → entry_from scope s place d ds ≡ Ok t → IsPlainTo 4 d
  entry_plain place d s t [] l e = deeper 2 4 d (omega arith) (update_plain d s t place e)
  entry_plain place d s t (a ∷ []) l e = deeper 2 4 d (omega arith) (update_plain d s t place e)
  entry_plain place d s t (word ∷ list ∷ []) l e =
      let c = tested (is_text (codes "all") word) Shape place (updates_added scope s (in_element place 1) list) t e in
      let ds = word ∷ list ∷ [] in
      subst (IsPlainTo 4) (listed_written place d ds l) (list_plain 3 ds (same_text_plain 3 (codes "all") word c.0, (updates_plain (in_element place 1) list s t c.1, tt)))
  entry_plain place d s t (a ∷ b ∷ c ∷ ds) l e = deeper 2 4 d (omega arith) (update_plain d s t place e)

  transaction_plain : (d : Data) → IsPlainIfRead 4 (transaction_added scope) d
  transaction_plain d s t place e =
      let w = bound (entry_added scope s place d) _ t e in
      let l = bound (listed place d) (entry_from scope s place d) w.0 w.1 in
      entry_plain place d s w.0 l.0 l.1 l.2

  pub transactions_plain : (place : Place) (d : Data) (s t : Work) → transactions_added scope s place d ≡ Ok t → IsPlainTo 5 d
  transactions_plain place d s t e = elements_plain 4 (transaction_added scope) 0 4096 place s t d (of_all (IsPlainIfRead 4 (transaction_added scope)) transaction_plain d) e
