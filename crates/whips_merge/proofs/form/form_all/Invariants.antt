use Rattle.std.proofs.Common.{◌≡◌, ◌-◌, map}
use Rattle.whips_merge.proofs.Forming.{Forming}
use Rattle.whips_merge.proofs.form.form_all.Given as goal

abbrev pub invariant-loop-turn : goal.invariant-loop-turn
invariant-loop-turn l = record {
  table : l.table ≡ record l.initial.table { table = record (l.initial.table.table) { rows = l.table.table.rows } };
  forming : Forming l.turns (l.turns - l.turn) l.initial.table.table.rows l.table.table.rows l.initial.lists.items l.lists.items l.initial.cut.items l.cut.items (map (λ w. w.rows.items) l.formed.items) (map (λ w. w.transaction) l.formed.items);
}
