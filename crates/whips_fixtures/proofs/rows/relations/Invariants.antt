use Rattle.std.proofs.Common.{◌≡◌, length}
use Rattle.whips_fixtures.proofs.rows.relations.Given as goal

abbrev pub invariant-loop-list : goal.invariant-loop-list
invariant-loop-list l = length l.relations.items ≡ l.list-index
