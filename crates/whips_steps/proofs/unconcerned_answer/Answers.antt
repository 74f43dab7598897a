use Rattle.whips_steps.proofs.Unconcerned.{same_answer}
use Rattle.whips_steps.proofs.unconcerned_answer.Goals as goal

pub returns : goal.returns
returns c = same_answer
