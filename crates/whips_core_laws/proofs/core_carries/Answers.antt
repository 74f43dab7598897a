use Rattle.whips_core_laws.proofs.core_carries.Goals as goal
use Rattle.whips_core_laws.proofs.Carried.{core_carries}

pub returns : goal.returns
returns c = core_carries
