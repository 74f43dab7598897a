use Rattle.std.proofs.Common.{length}
use Rattle.whips_view.proofs.checks.+check_key.Given as goal

abbrev pub decreases-check_key : goal.decreases-check_key
decreases-check_key l = length l.key.now
