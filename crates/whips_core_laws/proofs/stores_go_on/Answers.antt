use Rattle.whips_core_laws.proofs.stores_go_on.Goals as goal
use Rattle.whips_core_laws.proofs.Carried.{stores_go_on}

pub returns : goal.returns
returns c = stores_go_on
