use Rattle.std.proofs.Common.{length}
use Rattle.whips_relation_reading.proofs.relation.+place_of.Given as goal

abbrev pub decreases-place_of : goal.decreases-place_of
decreases-place_of l = length l.relations.now
