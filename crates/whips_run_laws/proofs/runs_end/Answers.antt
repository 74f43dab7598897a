use Rattle.whips_run_laws.proofs.Turns.{ends}
use Rattle.whips_run_laws.proofs.runs_end.Goals as goal

pub returns : goal.returns
returns c = ends
