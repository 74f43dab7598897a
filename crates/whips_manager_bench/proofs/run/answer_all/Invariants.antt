use Rattle.std.proofs.Common.{◌≡◌}
use Rattle.whips_manager_bench.proofs.run.answer_all.Given as goal

abbrev pub invariant-loop-ask : goal.invariant-loop-ask
invariant-loop-ask l = l.manager.view ≡ l.view
