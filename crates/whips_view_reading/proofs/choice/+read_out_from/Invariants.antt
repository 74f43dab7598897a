use Rattle.std.proofs.Common.{length}
use Rattle.whips_view_reading.proofs.choice.+read_out_from.Given as goal

abbrev pub decreases-read_out_from : goal.decreases-read_out_from
decreases-read_out_from l = length l.items.now
