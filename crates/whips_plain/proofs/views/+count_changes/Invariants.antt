use Rattle.std.proofs.Common.{length}
use Rattle.whips_plain.proofs.views.+count_changes.Given as goal

abbrev pub decreases-count_changes : goal.decreases-count_changes
decreases-count_changes l = length l.changes.now
