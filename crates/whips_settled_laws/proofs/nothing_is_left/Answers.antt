use Rattle.whips_settled_laws.proofs.Ends.{nothing_left}
use Rattle.whips_settled_laws.proofs.nothing_is_left.Goals as goal

pub returns : goal.returns
returns c = nothing_left
