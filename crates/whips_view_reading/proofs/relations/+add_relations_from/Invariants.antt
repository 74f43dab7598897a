use Rattle.std.proofs.Common.{length}
use Rattle.whips_view_reading.proofs.relations.+add_relations_from.Given as goal

abbrev pub decreases-add_relations_from : goal.decreases-add_relations_from
decreases-add_relations_from l = length l.items.now
