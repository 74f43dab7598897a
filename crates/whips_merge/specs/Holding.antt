-- What a merge holds, and the state that its callers see in it.
use Rattle.std.specs.Prelude.{◌≡◌, ◌≤◌, false, List, length, map, None}
use Rattle.whips_flow.specs.Painted.{Row}
use Rattle.whips_paint.specs.Table.{ready_numbers}
use Rattle.whips_merge.specs.declared.form.Waiting.{Waiting}
use Rattle.whips_merge.specs.declared.form.Holdings.{Holdings}
use Rattle.whips_merge.specs.declared.lists.Transaction.{Transaction}
use Rattle.whips_merge.specs.Taking.{merge_of}
use Rattle.whips_merge.specs.Merging.{MergeState}

-- the row sets that wait, and their transactions
abbrev pub rows_of : List Waiting → List (List Row)
rows_of sets = map (λ w. w.rows.items) sets

abbrev pub transactions_of : List Waiting → List Transaction
transactions_of sets = map (λ w. w.transaction) sets

-- the state of a merge that isn't stopped
abbrev pub state_of : Holdings → MergeState
state_of h = record {
  merge = merge_of h.table.table.last_announced h.table.table.rows h.waiting.items (rows_of h.sets.items);
  lists = h.lists.items;
  cut = h.cut.items;
  transactions = transactions_of h.sets.items;
  is_stopped = false;
}

-- the parts of a merge fit each other: there is a queue and a list for each of up to 8 views, and no row is ready
pub record IsWhole (h : Holdings) : Type 0 where
  pub waiting_views : length h.waiting.items ≡ h.table.views
  pub few : h.table.views ≤ 8
  pub list_views : length h.lists.items ≡ h.table.views
  pub unready : ready_numbers h.table.table.rows ≡ None
