use Rattle.whips_trans_laws.proofs.Nets.{inserted_last, deleted_first}
use Rattle.whips_trans_laws.proofs.first_and_last.Goals as goal

pub returns : goal.returns
returns c = record { inserted = inserted_last; deleted = deleted_first }
