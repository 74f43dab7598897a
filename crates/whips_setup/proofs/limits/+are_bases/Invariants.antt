use Rattle.std.proofs.Common.{length}
use Rattle.whips_setup.proofs.limits.+are_bases.Given as goal

abbrev pub decreases-are_bases : goal.decreases-are_bases
decreases-are_bases l = length l.relations.now
