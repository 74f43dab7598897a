use Rattle.std.proofs.Common.{◌≡◌, length}
use Rattle.whips_fixtures.proofs.steps.transactions.Given as goal

abbrev pub invariant-loop-list : goal.invariant-loop-list
invariant-loop-list l = length l.work.items ≡ l.list-index
