use Rattle.whips_steps.proofs.Unconcerned.{answer_is}
use Rattle.whips_steps.proofs.answer_at_parts.Goals as goal

pub returns : goal.returns
returns c = answer_is
