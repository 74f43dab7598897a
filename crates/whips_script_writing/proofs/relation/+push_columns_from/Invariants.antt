use Rattle.std.proofs.Common.{length}
use Rattle.whips_script_writing.proofs.relation.+push_columns_from.Given as goal

abbrev pub decreases-push_columns_from : goal.decreases-push_columns_from
decreases-push_columns_from l = length l.names.now
