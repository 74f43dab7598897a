use Rattle.std.proofs.Common.{length}
use Rattle.whips_vnl.proofs.record.+find_step.Given as goal

abbrev pub decreases-find_step : goal.decreases-find_step
decreases-find_step l = length l.steps.now
