use Rattle.whips_canonical_laws.proofs.Values.{columns_written}
use Rattle.whips_canonical_laws.proofs.columns_are_written.Goals as goal

pub returns : goal.returns
returns c = columns_written
