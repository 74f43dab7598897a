use Rattle.whips_ask_laws.proofs.Askable.{names_step, is_free}
use Rattle.whips_ask_laws.proofs.ask_names_step.Goals as goal

pub returns : goal.returns
returns c = record { step = names_step; free = is_free }
