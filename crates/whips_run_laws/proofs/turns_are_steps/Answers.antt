use Rattle.whips_run_laws.proofs.Turns.{turn_step}
use Rattle.whips_run_laws.proofs.turns_are_steps.Goals as goal

pub returns : goal.returns
returns c = turn_step
