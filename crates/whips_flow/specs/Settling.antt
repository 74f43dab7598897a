-- How the merge settles after each entry that it takes.
use Rattle.std.specs.Prelude.{ℕ, zero, suc, nat_le, List, [], ◌∷◌, ◌++◌, length, map, fold, Some, None, if◌then◌else◌}
use Rattle.whips_flow.specs.Painted.{Row, painted_rows, closure, rows_with, rows_without, lowest_ready}
use Rattle.whips_flow.specs.State.{Merge}

-- ---- each list whose rows have all come is painted; the painting algorithm 1997

-- of a view's waiting lists, those before the first one above n
abbrev pub due_lists : ℕ → List ℕ → List ℕ
due_lists n [] = []
due_lists n (j ∷ js) = if nat_le j n then j ∷ due_lists n js else []

-- the other ones
abbrev pub later_lists : ℕ → List ℕ → List ℕ
later_lists n [] = []
later_lists n (j ∷ js) = if nat_le j n then later_lists n js else j ∷ js

-- the rows after the due lists of the views from x on
abbrev pub rows_after_lists : ℕ → ℕ → List (List ℕ) → List Row → List Row
rows_after_lists n x [] rows = rows
rows_after_lists n x (js ∷ waiting) rows = rows_after_lists n (suc x) waiting (fold (painted_rows x) rows (due_lists n js))

abbrev pub painted_merge : Merge → Merge
painted_merge m = record m {
  waiting_lists = map (later_lists m.table.last_announced) m.waiting_lists;
  table = record (m.table) { rows = rows_after_lists m.table.last_announced 0 m.waiting_lists m.table.rows };
}

-- ---- then each closure of a ready row leaves the table, the one of the lowest first; own, after the painting algorithm 1997

-- the rows with these numbers leave the table as one row set
abbrev pub with_set_taken : List ℕ → Merge → Merge
with_set_taken numbers m = record m { table = record (m.table) { rows = rows_without numbers m.table.rows }; row_sets = m.row_sets ++ rows_with numbers m.table.rows ∷ [] }

-- at most n times
abbrev pub with_ready_taken : ℕ → Merge → Merge
with_ready_taken zero m = m
with_ready_taken (suc n) m = elim (lowest_ready m.table.rows) [
  | None ↦ m
  | Some r ↦ with_ready_taken n (with_set_taken (closure m.table.rows r.number) m)
]

-- no row is ready afterwards, since each turn takes a row at least
abbrev pub settled_merge : Merge → Merge
settled_merge m = with_ready_taken (length m.table.rows) (painted_merge m)
