use Rattle.std.proofs.Common.{length}
use Rattle.whips_view.proofs.checks.+test_own_kind.Given as goal

abbrev pub decreases-test_own_kind : goal.decreases-test_own_kind
decreases-test_own_kind l = length l.conds.now
