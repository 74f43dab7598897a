use Rattle.whips_canonical_laws.proofs.Rows.{rows_again}
use Rattle.whips_canonical_laws.proofs.relation_rows_are_read.Goals as goal

pub returns : goal.returns
returns c = rows_again
