use Rattle.std.proofs.Common.{◌≡◌, ◌++◌, false, take, drop, map}
use Rattle.whips_flow.specs.Settling.{later_lists, rows_after_lists}
use Rattle.whips_merge.proofs.paint.paint_all.Given as goal

abbrev pub invariant-loop-x : goal.invariant-loop-x
invariant-loop-x l = record {
  rows : rows_after_lists l.initial.table.table.last_announced l.x (drop l.x l.initial.waiting.items) l.table.table.rows ≡ rows_after_lists l.initial.table.table.last_announced 0 l.initial.waiting.items l.initial.table.table.rows;
  waiting : l.waiting.items ≡ map (later_lists l.initial.table.table.last_announced) (take l.x l.initial.waiting.items) ++ drop l.x l.initial.waiting.items;
  table : l.table ≡ record l.initial.table { table = record (l.initial.table.table) { rows = l.table.table.rows } };
  painted : l.is_painted ≡ false → l.table ≡ l.initial.table;
}
