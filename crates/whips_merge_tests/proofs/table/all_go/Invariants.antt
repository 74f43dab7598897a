use Rattle.std.proofs.Common.{◌≡◌}
use Rattle.whips_merge_tests.proofs.table.all_go.Given as goal

abbrev pub invariant-loop-step : goal.invariant-loop-step
invariant-loop-step l = l.table.views ≡ 2
