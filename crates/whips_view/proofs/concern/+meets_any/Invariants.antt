use Rattle.std.proofs.Common.{length}
use Rattle.whips_view.proofs.concern.+meets_any.Given as goal

abbrev pub decreases-meets_any : goal.decreases-meets_any
decreases-meets_any l = length l.relations.now
