use Rattle.std.proofs.Common.{length}
use Rattle.whips_script_writing.proofs.view.+push_conditions_from.Given as goal

abbrev pub decreases-push_conditions_from : goal.decreases-push_conditions_from
decreases-push_conditions_from l = length l.list.now
