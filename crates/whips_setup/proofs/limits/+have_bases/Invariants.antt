use Rattle.std.proofs.Common.{length}
use Rattle.whips_setup.proofs.limits.+have_bases.Given as goal

abbrev pub decreases-have_bases : goal.decreases-have_bases
decreases-have_bases l = length l.views.now
