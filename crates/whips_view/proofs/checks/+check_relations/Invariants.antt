use Rattle.std.proofs.Common.{length}
use Rattle.whips_view.proofs.checks.+check_relations.Given as goal

abbrev pub decreases-check_relations : goal.decreases-check_relations
decreases-check_relations l = length l.relations.now
