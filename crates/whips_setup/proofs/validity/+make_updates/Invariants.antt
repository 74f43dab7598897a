use Rattle.std.proofs.Common.{length}
use Rattle.whips_setup.proofs.validity.+make_updates.Given as goal

abbrev pub decreases-make_updates : goal.decreases-make_updates
decreases-make_updates l = length l.updates.now
