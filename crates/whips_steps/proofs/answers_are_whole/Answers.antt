use Rattle.whips_steps.proofs.Found.{wholes}
use Rattle.whips_steps.proofs.answers_are_whole.Goals as goal

pub returns : goal.returns
returns c = wholes
