use Rattle.whips_states.proofs.Changed.{tables_stay}
use Rattle.whips_states.proofs.tables_stay.Goals as goal

pub returns : goal.returns
returns c = tables_stay
