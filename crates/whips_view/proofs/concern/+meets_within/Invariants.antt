use Rattle.std.proofs.Common.{length}
use Rattle.whips_view.proofs.concern.+meets_within.Given as goal

abbrev pub decreases-meets_within : goal.decreases-meets_within
decreases-meets_within l = length l.equal.now
