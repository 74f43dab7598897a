use Rattle.std.proofs.Common.{length}
use Rattle.whips_view.proofs.checks.+check_out.Given as goal

abbrev pub decreases-check_out : goal.decreases-check_out
decreases-check_out l = length l.out.now
