use Rattle.std.proofs.Common.{length}
use Rattle.whips_view.proofs.concern.+concerns_any.Given as goal

abbrev pub decreases-concerns_any : goal.decreases-concerns_any
decreases-concerns_any l = length l.updates.now
