-- Workloads of source transactions, and why one can't be made.
use Rattle.std.specs.Prelude.{◌≡◌, ℕ, suc, ◌==◌, ◌&&◌, nat_le, nat_eq, Bool, true, false, cond, List, [], ◌∷◌, length, map, slice_get, is_some, Option, Some, None}
use Rattle.std.specs.Option.{option_or}
use Rattle.std.specs.List.{list_all, AllByRecursion}
use lib.Pointwise.{pointwise}
use Rattle.whips_model.specs.Tuples.{Codes, Columns, at_columns, row_at}
use Rattle.whips_model.specs.Relation.{Table}
use Rattle.whips_rel.specs.declared.update.Update.{Update}
use Rattle.whips_rel.specs.declared.update.Update.TheVariants.{Insert, Delete}
use Rattle.whips_rel.specs.Updates.{relation_of, tuple_of}
use Rattle.whips_states.specs.States.{Updates, updated, applied, AreAllValid}
use Rattle.whips_view.specs.ViewDefs.{is_within, columns_in}
use Rattle.whips_setup.specs.declared.error.BatchErr.{BatchErr}
use Rattle.whips_setup.specs.declared.error.BatchErr.TheVariants.{Limit, Foreign, Present, Absent, NoMemory}
use Rattle.whips_setup.specs.declared.error.WorkErr.{WorkErr}
use Rattle.whips_setup.specs.declared.error.WorkErr.TheVariants.{Limit as WorkLimit, Foreign as WorkForeign, Present as WorkPresent, Absent as WorkAbsent, NoMemory as WorkNoMemory}
use Rattle.whips_setup.specs.declared.validity.ItemPlace.{ItemPlace}
use Rattle.whips_setup.specs.Setups.{SetupData}
use Rattle.whips_setup.specs.Limits.{has_numbers_within, is_source}
use Rattle.whips_setup.specs.Refusals.{IsSetup}

-- Whether the tuple has as many codes as there are columns, where there are any.
abbrev pub is_of_width : Option Columns → Codes → Bool
is_of_width None t = true
is_of_width (Some columns) t = length t == length columns.kinds

-- Whether no number of the tuple is above 999,999,999,999, where there are columns.
abbrev pub is_of_numbers : Option Columns → Codes → Bool
is_of_numbers None t = true
is_of_numbers (Some columns) t = has_numbers_within columns.kinds t

-- Whether the update's tuple has a code for each column of its relation, where that is there.
abbrev pub has_width : List Table → Update → Bool
has_width db u = is_of_width (columns_in (slice_get db (relation_of u))) (tuple_of u)

-- Whether the update's tuple has its relation's width and no number above the greatest, where the relation is there.
abbrev pub is_update_within : List Table → Update → Bool
is_update_within db u = has_width db u && is_of_numbers (columns_in (slice_get db (relation_of u))) (tuple_of u)

-- Whether the transaction has 1 to 16 updates, each within its limits.
abbrev pub is_transaction_within : List Table → Updates → Bool
is_transaction_within db t = is_within 1 16 (length t) && list_all (is_update_within db) t

-- Whether there are up to 4,096 transactions, each within its limits.
abbrev pub is_list_within : List Table → List Updates → Bool
is_list_within db list = nat_le (length list) 4096 && list_all (is_transaction_within db) list

-- Whether there is one list for each source, each within its limits.
abbrev pub is_work_within : SetupData → List (List Updates) → Bool
is_work_within s work = (length work == s.sources) && list_all (is_list_within s.initial) work

-- Whether this is there, and is the tuple.
abbrev pub is_row : Codes → Option Codes → Bool
is_row t None = false
is_row t (Some row) = pointwise nat_eq row t

-- An insert of a tuple whose key is there, or a delete of a tuple that isn't there.
abbrev pub row_refusal : ItemPlace → Table → Update → Option BatchErr
row_refusal at table (Insert r t) = cond (is_some (row_at table.columns.key (at_columns table.columns.key t) table.rows)) (Some (Present at.source at.place at.item)) None
row_refusal at table (Delete r t) = cond (is_row t (row_at table.columns.key (at_columns table.columns.key t) table.rows)) None (Some (Absent at.source at.place at.item))

abbrev pub refusal_in : ItemPlace → Option Table → Update → Option BatchErr
refusal_in at None u = Some (Foreign at.source at.place at.item)
refusal_in at (Some table) u = row_refusal at table u

-- Why the source can't make the update on these relations: its relation isn't there or is of another source, or an insert's key is there, or a delete's tuple isn't.
abbrev pub update_refusal : List ℕ → ItemPlace → List Table → Update → Option BatchErr
update_refusal homes at db u = cond (is_source at.source (slice_get homes (relation_of u))) (refusal_in at (slice_get db (relation_of u)) u) (Some (Foreign at.source at.place at.item))

-- The first refusal among the updates of a transaction, each on the relations after the ones before it.
abbrev pub transaction_refusal : List ℕ → ItemPlace → List Table → Updates → Option BatchErr
transaction_refusal homes at db [] = None
transaction_refusal homes at db (u ∷ t) = option_or (update_refusal homes at db u) (transaction_refusal homes (record at { item = suc at.item }) (updated db u) t)

-- The first refusal among the transactions of a source, of which the first here has this place, each on the relations after the ones before it.
abbrev pub list_refusal : List ℕ → ℕ → ℕ → List Table → List Updates → Option BatchErr
list_refusal homes source place db [] = None
list_refusal homes source place db (t ∷ list) = option_or (transaction_refusal homes (record { source = source; place = place; item = 1 }) db t) (list_refusal homes source (suc place) (applied db t) list)

-- The first refusal among the sources, of which the first here has this number. Each changes its own relations.
abbrev pub lists_refusal : SetupData → ℕ → List (List Updates) → Option BatchErr
lists_refusal s source [] = None
lists_refusal s source (list ∷ work) = option_or (list_refusal s.homes source 1 s.initial list) (lists_refusal s (suc source) work)

-- Why these transactions of each source are no workload of the setup: a limit, or else the first refusal in the order of source, place and item.
abbrev pub work_refusal : SetupData → List (List Updates) → Option BatchErr
work_refusal s work = cond (is_work_within s work) (lists_refusal s 0 work) (Some Limit)

-- Each source, of which the first here has this number, updates its own relations alone.
abbrev pub AreOwn : List ℕ → ℕ → List (List Updates) → Type 0
AreOwn homes source [] = Unit {0}
AreOwn homes source (list ∷ work) = AllByRecursion (AllByRecursion (λ u. slice_get homes (relation_of u) ≡ Some source)) list × AreOwn homes (suc source) work

-- What a workload keeps: none of the refusals holds, each source updates its own relations alone, and its transactions are valid in turn.
pub record IsWorkload (s : SetupData) (work : List (List Updates)) : Type 0 where
  pub accepted : work_refusal s work ≡ None
  pub own : AreOwn s.homes 0 work
  pub valid : AllByRecursion (AreAllValid s.initial) work

-- The workload is one of some setup.
abbrev pub IsSomeWorkload : List (List Updates) → Type 0
IsSomeWorkload work = (s : SetupData) × IsSetup s × IsWorkload s work

-- The transactions of one update each.
abbrev pub one_each : List (List Update) → List (List Updates)
one_each work = map (map (λ u. u ∷ [])) work

-- The refusal of transactions of one update, which needs no place in the transaction.
abbrev pub without_item : BatchErr → WorkErr
without_item Limit = WorkLimit
without_item (Foreign source place item) = WorkForeign source place
without_item (Present source place item) = WorkPresent source place
without_item (Absent source place item) = WorkAbsent source place
without_item NoMemory = WorkNoMemory
