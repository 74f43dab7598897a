use Rattle.whips_run_laws.proofs.Reaches.{listed_reached}
use Rattle.whips_run_laws.proofs.listed_runs_are_reached.Goals as goal

pub returns : goal.returns
returns c = listed_reached
