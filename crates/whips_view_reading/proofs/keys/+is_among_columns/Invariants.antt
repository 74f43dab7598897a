use Rattle.std.proofs.Common.{length}
use Rattle.whips_view_reading.proofs.keys.+is_among_columns.Given as goal

abbrev pub decreases-is_among_columns : goal.decreases-is_among_columns
decreases-is_among_columns l = length l.out.now
