use Rattle.whips_writer_laws.proofs.Writers.{sessions_cuts}
use Rattle.whips_writer_laws.proofs.sessions_read_cuts.Goals as goal

pub returns : goal.returns
returns c = sessions_cuts
