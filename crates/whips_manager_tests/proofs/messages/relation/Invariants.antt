use Rattle.std.proofs.Common.{◌≡◌}
use Rattle.whips_fixtures.specs.Pairs.{pair_columns}
use Rattle.whips_manager_tests.proofs.messages.relation.Given as goal

abbrev pub invariant-loop-key : goal.invariant-loop-key
invariant-loop-key l = l.relation.columns ≡ pair_columns
