use Rattle.std.proofs.Common.{length}
use Rattle.whips_script_writing.proofs.update.+push_key_from.Given as goal

abbrev pub decreases-push_key_from : goal.decreases-push_key_from
decreases-push_key_from l = length l.key.now
