use Rattle.std.proofs.Common.{length}
use Rattle.whips_setup.proofs.limits.+relations_at.Given as goal

abbrev pub decreases-relations_at : goal.decreases-relations_at
decreases-relations_at l = length l.homes.now
