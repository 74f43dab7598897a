use Rattle.whips_manager_trans_laws.proofs.Transaction.{transaction}
use Rattle.whips_manager_trans_laws.proofs.Unconcerned.{unconcerned}
use Rattle.whips_manager_trans_laws.proofs.transaction_keeps.Goals as goal

pub returns : goal.returns
returns c = record { taken = transaction; unconcerned = unconcerned }
