use Rattle.whips_manager_laws.proofs.Lawful.{deletion}
use Rattle.whips_manager_laws.proofs.deletion_keeps.Goals as goal

pub returns : goal.returns
returns c = deletion
