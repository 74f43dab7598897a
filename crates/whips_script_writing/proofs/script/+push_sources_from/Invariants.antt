use Rattle.std.proofs.Common.{length}
use Rattle.whips_script_writing.proofs.script.+push_sources_from.Given as goal

abbrev pub decreases-push_sources_from : goal.decreases-push_sources_from
decreases-push_sources_from l = length l.names.now
