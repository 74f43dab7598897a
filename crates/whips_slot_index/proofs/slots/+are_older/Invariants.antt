use Rattle.std.proofs.Common.{length}
use Rattle.whips_slot_index.proofs.slots.+are_older.Given as goal

abbrev pub decreases-are_older : goal.decreases-are_older
decreases-are_older l = length l.steps.now
