-- Transactions that are valid in turn, each source's on its own relations, are refused by nothing.
use Rattle.std.proofs.Common.{◌≡◌, ℕ, suc, ◌==◌, nat_eq, Bool, true, List, [], ◌∷◌, slice_get, is_some, Option, Some, None, refl, ap, ap₂, ◌&&◌, ◌∙◌, eq-eqb}
use Rattle.std.specs.List.{AllByRecursion}
use lib.Pointwise.{pointwise}
use Rattle.whips_model.specs.Tuples.{Codes, at_columns, row_at}
use Rattle.whips_model.specs.Relation.{Table}
use Rattle.whips_rel.specs.declared.update.Update.{Update}
use Rattle.whips_rel.specs.declared.update.Update.TheVariants.{Insert, Delete}
use Rattle.whips_rel.specs.Updates.{relation_of}
use Rattle.whips_states.specs.States.{Updates, updated, applied, IsValidIn, IsValid, AreValid, AreAllValid}
use Rattle.whips_setup.specs.declared.error.BatchErr.TheVariants.{Foreign, Present, Absent}
use Rattle.whips_setup.specs.Setups.{SetupData}
use Rattle.whips_setup.specs.Limits.{is_source}
use Rattle.whips_setup.specs.Workloads.{is_row, row_refusal, refusal_in, update_refusal, transaction_refusal, list_refusal, lists_refusal, AreOwn}
use Rattle.whips_script_laws.proofs.Appended.{both_none, passes, fails}

same_row : (t : Codes) → pointwise nat_eq t t ≡ true
same_row [] = refl
same_row (c ∷ t) = ap₂ (λ a b. a && b) (eq-eqb c c refl) (same_row t)

module _ (source place item : ℕ) where
  row_accepted : (table : Table) (u : Update) → IsValidIn table u → row_refusal (record { source = source; place = place; item = item }) table u ≡ None
  row_accepted table (Insert r t) h = fails (is_some (row_at table.columns.key (at_columns table.columns.key t) table.rows)) (Present source place item) None (ap is_some h.1) refl
  row_accepted table (Delete r t) h = passes (is_row t (row_at table.columns.key (at_columns table.columns.key t) table.rows)) (Absent source place item) None (ap (is_row t) h.1 ∙ same_row t) refl

module _ (homes : List ℕ) (source : ℕ) where
  abbrev IsAt : Update → Type 0
  IsAt u = slice_get homes (relation_of u) ≡ Some source

  update_accepted : (place item : ℕ) (db : List Table) (u : Update) → IsAt u → IsValid db u → update_refusal homes (record { source = source; place = place; item = item }) db u ≡ None
  update_accepted place item db u own valid =
      passes (is_source source (slice_get homes (relation_of u))) (Foreign source place item) (refusal_in (record { source = source; place = place; item = item }) (slice_get db (relation_of u)) u)
      (ap (is_source source) own ∙ eq-eqb source source refl)
      (ap (λ o. refusal_in (record { source = source; place = place; item = item }) o u) valid.there ∙ row_accepted source place item valid.table u valid.valid)

  transaction_accepted : (place item : ℕ) (db : List Table) (t : Updates) → AllByRecursion IsAt t → AreValid db t → transaction_refusal homes (record { source = source; place = place; item = item }) db t ≡ None
  transaction_accepted place item db [] own valid = refl
  transaction_accepted place item db (u ∷ t) own valid =
      both_none (update_refusal homes (record { source = source; place = place; item = item }) db u) (transaction_refusal homes (record { source = source; place = place; item = suc item }) (updated db u) t)
      (update_accepted place item db u own.0 valid.0) (transaction_accepted place (suc item) (updated db u) t own.1 valid.1)

  list_accepted : (place : ℕ) (db : List Table) (list : List Updates) → AllByRecursion (AllByRecursion IsAt) list → AreAllValid db list → list_refusal homes source place db list ≡ None
  list_accepted place db [] own valid = refl
  list_accepted place db (t ∷ list) own valid =
      both_none (transaction_refusal homes (record { source = source; place = place; item = 1 }) db t) (list_refusal homes source (suc place) (applied db t) list)
      (transaction_accepted place 1 db t own.0 valid.0) (list_accepted (suc place) (applied db t) list own.1 valid.1)

pub lists_accepted : (s : SetupData) (source : ℕ) (work : List (List Updates)) → AreOwn s.homes source work → AllByRecursion (AreAllValid s.initial) work → lists_refusal s source work ≡ None
lists_accepted s source [] own valid = refl
lists_accepted s source (list ∷ work) own valid =
    both_none (list_refusal s.homes source 1 s.initial list) (lists_refusal s (suc source) work) (list_accepted s.homes source 1 s.initial list own.0 valid.0) (lists_accepted s (suc source) work own.1 valid.1)
