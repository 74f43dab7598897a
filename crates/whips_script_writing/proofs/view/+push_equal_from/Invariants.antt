use Rattle.std.proofs.Common.{length}
use Rattle.whips_script_writing.proofs.view.+push_equal_from.Given as goal

abbrev pub decreases-push_equal_from : goal.decreases-push_equal_from
decreases-push_equal_from l = length l.list.now
