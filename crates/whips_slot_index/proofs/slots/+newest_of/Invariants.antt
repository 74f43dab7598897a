use Rattle.std.proofs.Common.{length}
use Rattle.whips_slot_index.proofs.slots.+newest_of.Given as goal

abbrev pub decreases-newest_of : goal.decreases-newest_of
decreases-newest_of l = length l.steps.now
