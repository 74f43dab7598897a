use Rattle.std.proofs.Common.{length}
use Rattle.whips_view.proofs.checks.+check_once.Given as goal

abbrev pub decreases-check_once : goal.decreases-check_once
decreases-check_once l = length l.relations.now
