use Rattle.std.proofs.Common.{length}
use Rattle.whips_plan_reading.proofs.sessions.+add_sessions_from.Given as goal

abbrev pub decreases-add_sessions_from : goal.decreases-add_sessions_from
decreases-add_sessions_from l = length l.items.now
