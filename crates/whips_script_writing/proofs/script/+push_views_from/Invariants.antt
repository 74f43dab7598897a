use Rattle.std.proofs.Common.{length}
use Rattle.whips_script_writing.proofs.script.+push_views_from.Given as goal

abbrev pub decreases-push_views_from : goal.decreases-push_views_from
decreases-push_views_from l = length l.names.now
