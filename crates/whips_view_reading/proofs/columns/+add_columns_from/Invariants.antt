use Rattle.std.proofs.Common.{length}
use Rattle.whips_view_reading.proofs.columns.+add_columns_from.Given as goal

abbrev pub decreases-add_columns_from : goal.decreases-add_columns_from
decreases-add_columns_from l = length l.names.now
