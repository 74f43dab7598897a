use Rattle.std.proofs.Common.{◌≡◌, ◌++◌, map, take}
use Rattle.whips_update_reading.proofs.source.add_tables.Given as goal

abbrev pub invariant-loop-relation : goal.invariant-loop-relation
invariant-loop-relation l = l.tables.items ≡ l.initial.tables.items ++ map (λ r. r.table) (take l.relation-index l.relations)
