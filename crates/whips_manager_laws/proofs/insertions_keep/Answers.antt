use Rattle.whips_manager_laws.proofs.Lawful.{insertions, put_insertions}
use Rattle.whips_manager_laws.proofs.insertions_keep.Goals as goal

pub returns : goal.returns
returns c = record { query = insertions; put = put_insertions }
