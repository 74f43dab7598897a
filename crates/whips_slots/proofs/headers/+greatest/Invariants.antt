use Rattle.std.proofs.Common.{length}
use Rattle.whips_slots.proofs.headers.+greatest.Given as goal

abbrev pub decreases-greatest : goal.decreases-greatest
decreases-greatest l = length l.headers.now
