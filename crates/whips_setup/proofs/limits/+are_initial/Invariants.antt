use Rattle.std.proofs.Common.{length}
use Rattle.whips_setup.proofs.limits.+are_initial.Given as goal

abbrev pub decreases-are_initial : goal.decreases-are_initial
decreases-are_initial l = length l.schemas.now
