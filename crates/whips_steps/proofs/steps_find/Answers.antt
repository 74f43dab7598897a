use Rattle.whips_steps.proofs.Found.{finds}
use Rattle.whips_steps.proofs.steps_find.Goals as goal

pub returns : goal.returns
returns c = finds
