use Rattle.whips_value_laws.proofs.Whole.{has_all}
use Rattle.whips_value_laws.proofs.last_cut_has_all.Goals as goal

pub returns : goal.returns
returns c = has_all
