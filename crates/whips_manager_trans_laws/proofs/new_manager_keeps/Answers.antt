use Rattle.whips_manager_trans_laws.proofs.Relations.{begins_on}
use Rattle.whips_manager_trans_laws.proofs.new_manager_keeps.Goals as goal

pub returns : goal.returns
returns c = begins_on
