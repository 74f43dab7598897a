use Rattle.whips_states.proofs.Unconcerned.{transaction_keeps}
use Rattle.whips_states.proofs.unconcerned_keeps.Goals as goal

pub returns : goal.returns
returns c = transaction_keeps
