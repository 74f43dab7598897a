use Rattle.std.proofs.Common.{length}
use Rattle.whips_script_writing.proofs.view.+push_relations_from.Given as goal

abbrev pub decreases-push_relations_from : goal.decreases-push_relations_from
decreases-push_relations_from l = length l.numbers.now
