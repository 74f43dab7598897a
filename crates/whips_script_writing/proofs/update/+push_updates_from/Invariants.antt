use Rattle.std.proofs.Common.{length}
use Rattle.whips_script_writing.proofs.update.+push_updates_from.Given as goal

abbrev pub decreases-push_updates_from : goal.decreases-push_updates_from
decreases-push_updates_from l = length l.updates.now
