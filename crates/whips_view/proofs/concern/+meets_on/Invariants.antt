use Rattle.std.proofs.Common.{length}
use Rattle.whips_view.proofs.concern.+meets_on.Given as goal

abbrev pub decreases-meets_on : goal.decreases-meets_on
decreases-meets_on l = length l.conds.now
