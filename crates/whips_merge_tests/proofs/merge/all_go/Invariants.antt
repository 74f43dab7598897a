use Rattle.std.proofs.Common.{◌≡◌, length}
use Rattle.whips_merge_tests.specs.Cuts.{HasCuts}
use Rattle.whips_merge_tests.proofs.merge.all_go.Given as goal

abbrev pub invariant-loop-step : goal.invariant-loop-step
invariant-loop-step l = (l.merge.merge.table.last_announced ≡ l.last) × (length l.merge.lists ≡ 2) × HasCuts 2 l.merge
