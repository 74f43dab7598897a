use Rattle.std.proofs.Common.{length}
use Rattle.whips_setup.proofs.work.+are_updates_within.Given as goal

abbrev pub decreases-are_updates_within : goal.decreases-are_updates_within
decreases-are_updates_within l = length l.updates.now
