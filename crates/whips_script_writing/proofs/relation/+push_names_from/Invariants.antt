use Rattle.std.proofs.Common.{length}
use Rattle.whips_script_writing.proofs.relation.+push_names_from.Given as goal

abbrev pub decreases-push_names_from : goal.decreases-push_names_from
decreases-push_names_from l = length l.key.now
