-- A merge as its callers see it, and what its calls do.
use Rattle.std.specs.Prelude.{◌≡◌, ℕ, Bool, true, false, not, List, [], ◌∷◌, ◌++◌, length, drop, map, filter, fold, replicate, slice_get}
use Rattle.std.specs.List.{list_any, flat_map}
use Rattle.whips_lists.specs.Lists.{changed_at, without_front}
use Rattle.whips_flow.specs.Painted.{Row}
use Rattle.whips_flow.specs.State.{Merge, new_table}
use Rattle.whips_flow.specs.Settling.{settled_merge}
use Rattle.whips_flow.specs.Cuts.{cut_after}
use Rattle.whips_flow.specs.Effects.{with_announced_row, with_waiting_list, without_row_set}
use Rattle.whips_paint.specs.Table.{new_row, is_red}
use Rattle.whips_setup.specs.Setups.{SetupData}
use Rattle.whips_actions.specs.declared.action.ActionList.{ActionList}
use Rattle.whips_merge.specs.declared.lists.Transaction.{Transaction}

-- A merge: the merge of the pipeline machine, with the action lists themselves.
pub record MergeState : Type 0 where
  -- the painted table, the lists that came before their rows, and the row sets that wait, as numbers
  pub merge : Merge
  -- of each view the lists that came and whose rows haven't left the table, in the order in which they came
  pub lists : List (List ActionList)
  -- the cut after all row sets that have left the table
  pub cut : List ℕ
  -- the row sets that wait, as transactions
  pub transactions : List Transaction
  -- it had no memory for a call, and takes nothing more
  pub is_stopped : Bool

-- A merge of the setup to which nothing has come.
abbrev pub new_merge : SetupData → MergeState
new_merge s = record {
  merge = record { table = new_table; waiting_lists = replicate (length s.views) []; row_sets = [] };
  lists = replicate (length s.views) [];
  cut = replicate s.sources 0;
  transactions = [];
  is_stopped = false;
}

-- ---- the transaction of a row set

-- Whether the list was painted in a row: the row's entry for the list's view is red with the list's number. The painting algorithm 1997.
abbrev pub covers : ActionList → Row → Bool
covers l r = is_red l.upto (slice_get r.entries l.view)

-- Whether the list was painted in one of the rows.
abbrev pub covers_any : List Row → ActionList → Bool
covers_any rows l = list_any (covers l) rows

-- The lists that were painted in the rows, in order of view and then as they came.
abbrev pub lists_of : List Row → List (List ActionList) → List ActionList
lists_of rows lists = flat_map (filter (covers_any rows)) lists

-- The other ones, view by view.
abbrev pub lists_left : List Row → List (List ActionList) → List (List ActionList)
lists_left rows lists = map (filter (λ l. not (covers_any rows l))) lists

-- The transaction that applies a row set: the numbers of its rows, exactly the lists that were painted in them, and the cut after it. The painting algorithm 1997.
abbrev pub transaction_of : List Row → List (List ActionList) → List ℕ → Transaction
transaction_of rows lists cut = record { rows = map (λ r. r.number) rows; lists = lists_of rows lists; cut = cut_after cut rows }

-- The merge after a row set has become a transaction.
abbrev pub with_transaction : MergeState → List Row → MergeState
with_transaction s rows = record s { lists = lists_left rows s.lists; cut = cut_after s.cut rows; transactions = s.transactions ++ transaction_of rows s.lists s.cut ∷ [] }

-- The merge whose part of the machine has become m: each new row set of m has become a transaction, in order.
abbrev pub with_merge : Merge → MergeState → MergeState
with_merge m s = fold with_transaction (record s { merge = m }) (drop (length s.merge.row_sets) m.row_sets)

-- The merge once each list whose rows have come is painted, and each row set that is ready then has become a transaction.
abbrev pub with_settled : MergeState → MergeState
with_settled s = with_merge (settled_merge s.merge) s

-- ---- the calls

-- The row of a transaction that is announced: white for the concerned views, black for the others.
abbrev pub announced_row : ℕ → ℕ → ℕ → ℕ → List ℕ → Row
announced_row views number source place concerned = record (new_row views number source concerned) { place = place }

-- The merge after an announced transaction, as the machine's merge after it.
abbrev pub after_rel : Row → MergeState → MergeState
after_rel r s = with_merge (settled_merge (with_announced_row r s.merge)) s

-- The merge with one list more of its view.
abbrev pub with_list : ActionList → MergeState → MergeState
with_list l s = record s { lists = changed_at l.view (λ ls. ls ++ l ∷ []) s.lists }

-- The merge after a list has come, as the machine's merge after it.
abbrev pub after_act : ActionList → MergeState → MergeState
after_act l s = with_merge (settled_merge (with_waiting_list l.view l.upto s.merge)) (with_list l s)

-- The merge after the oldest transaction was handed out.
abbrev pub after_next : MergeState → MergeState
after_next s = record s { merge = without_row_set s.merge; transactions = without_front s.transactions }

-- A merge that had no memory for a call: what waits still waits, and it is stopped.
pub record IsStoppedAfter (old new : MergeState) : Type 0 where
  pub transactions : new.transactions ≡ old.transactions
  pub stopped : new.is_stopped ≡ true
