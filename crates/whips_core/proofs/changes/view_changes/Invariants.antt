use Rattle.std.proofs.Common.{◌≡◌, take}
use Rattle.whips_contents.specs.Events.{rows_after}
use Rattle.whips_core.proofs.changes.view_changes.Given as goal

abbrev pub invariant-loop-list : goal.invariant-loop-list
invariant-loop-list l = l.draft ≡ record { columns = l.rows.columns; before = l.rows.rows; after = rows_after l.x l.view (take l.list-index l.lists) l.rows.rows }
