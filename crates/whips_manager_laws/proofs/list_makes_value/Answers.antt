use Rattle.whips_manager_laws.proofs.Lawful.{settles}
use Rattle.whips_manager_laws.proofs.list_makes_value.Goals as goal

pub returns : goal.returns
returns c = settles
