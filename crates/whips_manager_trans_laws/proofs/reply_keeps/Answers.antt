use Rattle.whips_manager_trans_laws.proofs.Replies.{reply}
use Rattle.whips_manager_trans_laws.proofs.reply_keeps.Goals as goal

pub returns : goal.returns
returns c = reply
