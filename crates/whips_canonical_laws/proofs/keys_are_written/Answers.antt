use Rattle.whips_canonical_laws.proofs.Values.{key_written}
use Rattle.whips_canonical_laws.proofs.keys_are_written.Goals as goal

pub returns : goal.returns
returns c = key_written
