use Rattle.whips_manager_trans_laws.proofs.Replies.{leaves, transaction_leaves, reply_leaves}
use Rattle.whips_manager_trans_laws.proofs.list_leaves.Goals as goal

pub returns : goal.returns
returns c = record { kept = leaves; transaction = transaction_leaves; reply = reply_leaves }
