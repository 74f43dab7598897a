use Rattle.std.proofs.Common.{length}
use Rattle.whips_view_reading.proofs.choice.+read_conditions_from.Given as goal

abbrev pub decreases-read_conditions_from : goal.decreases-read_conditions_from
decreases-read_conditions_from l = length l.items.now
