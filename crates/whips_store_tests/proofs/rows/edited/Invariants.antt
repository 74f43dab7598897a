use Rattle.std.proofs.Common.{◌≡◌}
use Rattle.whips_store_tests.proofs.rows.edited.Given as goal

abbrev pub invariant-loop-key : goal.invariant-loop-key
invariant-loop-key l = l.rows.columns ≡ l.before.columns
