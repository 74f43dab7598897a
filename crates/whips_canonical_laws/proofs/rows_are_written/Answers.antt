use Rattle.whips_canonical_laws.proofs.Values.{row_written}
use Rattle.whips_canonical_laws.proofs.rows_are_written.Goals as goal

pub returns : goal.returns
returns c = row_written
