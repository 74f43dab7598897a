use Rattle.whips_run_laws.proofs.Reaches.{picked_reached}
use Rattle.whips_run_laws.proofs.picked_runs_are_reached.Goals as goal

pub returns : goal.returns
returns c = picked_reached
