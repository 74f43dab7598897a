use Rattle.std.proofs.Common.{length}
use Rattle.whips_relation_reading.proofs.relation.+is_taken.Given as goal

abbrev pub decreases-is_taken : goal.decreases-is_taken
decreases-is_taken l = length l.relations.now
