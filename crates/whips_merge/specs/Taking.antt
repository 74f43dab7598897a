-- The row sets that leave a table one after another; for the proofs alone.
use Rattle.std.specs.Prelude.{ℕ, zero, suc, List, [], ◌∷◌, Some, None}
use Rattle.whips_flow.specs.Painted.{Row, rows_with, rows_without}
use Rattle.whips_flow.specs.State.{Merge}
use Rattle.whips_paint.specs.Table.{ready_numbers}

-- the sets that leave in at most n turns, and the rows that stay
abbrev pub sets_taken : ℕ → List Row → List (List Row)
sets_taken zero rows = []
sets_taken (suc n) rows = elim (ready_numbers rows) [
  | None ↦ []
  | Some numbers ↦ rows_with numbers rows ∷ sets_taken n (rows_without numbers rows)
]

abbrev pub rows_after_sets : ℕ → List Row → List Row
rows_after_sets zero rows = rows
rows_after_sets (suc n) rows = elim (ready_numbers rows) [
  | None ↦ rows
  | Some numbers ↦ rows_after_sets n (rows_without numbers rows)
]

-- the merge of the machine, of its parts
abbrev pub merge_of : ℕ → List Row → List (List ℕ) → List (List Row) → Merge
merge_of last rows waiting sets = record { table = record { rows = rows; last_announced = last }; waiting_lists = waiting; row_sets = sets }
