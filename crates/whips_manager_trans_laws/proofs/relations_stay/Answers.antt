use Rattle.whips_manager_trans_laws.proofs.Relations.{bases_are, relations_stay as stay}
use Rattle.whips_manager_trans_laws.proofs.relations_stay.Goals as goal

pub returns : goal.returns
returns c = record { made = bases_are; after = stay }
