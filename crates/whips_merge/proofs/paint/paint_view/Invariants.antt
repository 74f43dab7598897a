use Rattle.std.proofs.Common.{◌≡◌, false, length}
use Rattle.std.specs.Prelude.{fold}
use Rattle.whips_flow.specs.Painted.{painted_rows}
use Rattle.whips_flow.specs.Settling.{due_lists, later_lists}
use Rattle.whips_merge.proofs.paint.paint_view.Given as goal

abbrev pub decreases-loop-upto : goal.decreases-loop-upto
decreases-loop-upto l = length l.waiting

abbrev pub invariant-loop-upto : goal.invariant-loop-upto
invariant-loop-upto l = record {
  rows : fold (painted_rows l.x) l.table.table.rows (due_lists l.last l.waiting) ≡ fold (painted_rows l.x) l.initial.table.table.rows (due_lists l.last l.initial.waiting);
  waiting : later_lists l.last l.waiting ≡ later_lists l.last l.initial.waiting;
  table : l.table ≡ record l.initial.table { table = record (l.initial.table.table) { rows = l.table.table.rows } };
  painted : l.is_painted ≡ false → l.table ≡ l.initial.table;
}
