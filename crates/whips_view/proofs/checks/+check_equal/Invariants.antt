use Rattle.std.proofs.Common.{length}
use Rattle.whips_view.proofs.checks.+check_equal.Given as goal

abbrev pub decreases-check_equal : goal.decreases-check_equal
decreases-check_equal l = length l.equal.now
