use Rattle.std.proofs.Common.{length}
use Rattle.whips_view.proofs.checks.+join_one_kind.Given as goal

abbrev pub decreases-join_one_kind : goal.decreases-join_one_kind
decreases-join_one_kind l = length l.equal.now
