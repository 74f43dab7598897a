use Rattle.whips_manager_laws.proofs.Lawful.{begins, renumbers}
use Rattle.whips_manager_laws.proofs.new_manager_keeps.Goals as goal

pub returns : goal.returns
returns c = record { new = begins; later = renumbers }
