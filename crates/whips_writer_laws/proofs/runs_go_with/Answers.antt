use Rattle.whips_writer_laws.proofs.Events.{runs}
use Rattle.whips_writer_laws.proofs.runs_go_with.Goals as goal

pub returns : goal.returns
returns c = runs
