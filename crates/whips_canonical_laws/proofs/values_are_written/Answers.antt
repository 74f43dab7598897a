use Rattle.whips_canonical_laws.proofs.Values.{value_written}
use Rattle.whips_canonical_laws.proofs.values_are_written.Goals as goal

pub returns : goal.returns
returns c = value_written
