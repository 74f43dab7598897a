use Rattle.std.proofs.Common.{length}
use Rattle.whips_view_reading.proofs.columns.+add_view_columns.Given as goal

abbrev pub decreases-add_view_columns : goal.decreases-add_view_columns
decreases-add_view_columns l = length l.numbers.now
