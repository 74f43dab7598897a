use Rattle.std.proofs.Common.{◌≡◌}
use Rattle.whips_manager_bench.proofs.run.take_all.Given as goal

abbrev pub invariant-loop-i : goal.invariant-loop-i
invariant-loop-i l = record {
  view : l.manager.view ≡ l.view;
  last : l.manager.state.last ≡ l.i;
}
