use Rattle.std.proofs.Common.{length}
use Rattle.whips_view_reading.proofs.choice.+read_equalities_from.Given as goal

abbrev pub decreases-read_equalities_from : goal.decreases-read_equalities_from
decreases-read_equalities_from l = length l.items.now
