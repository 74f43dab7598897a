use Rattle.std.proofs.Common.{length}
use Rattle.whips_view.proofs.checks.+check_conds.Given as goal

abbrev pub decreases-check_conds : goal.decreases-check_conds
decreases-check_conds l = length l.conds.now
