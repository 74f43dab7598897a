use Rattle.whips_canonical_laws.proofs.Views.{sessions_written}
use Rattle.whips_canonical_laws.proofs.sessions_are_written.Goals as goal

pub returns : goal.returns
returns c = sessions_written
