use Rattle.whips_source_laws.proofs.Sources.{sources_again}
use Rattle.whips_source_laws.proofs.sources_are_read.Goals as goal

pub returns : goal.returns
returns c = sources_again
