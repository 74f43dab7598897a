use Rattle.std.proofs.Common.{length}
use Rattle.whips_setup.proofs.limits.+are_same_places.Given as goal

abbrev pub decreases-are_same_places : goal.decreases-are_same_places
decreases-are_same_places l = length l.places.now
