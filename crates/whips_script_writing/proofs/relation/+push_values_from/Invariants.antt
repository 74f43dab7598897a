use Rattle.std.proofs.Common.{length}
use Rattle.whips_script_writing.proofs.relation.+push_values_from.Given as goal

abbrev pub decreases-push_values_from : goal.decreases-push_values_from
decreases-push_values_from l = length l.kinds.now
