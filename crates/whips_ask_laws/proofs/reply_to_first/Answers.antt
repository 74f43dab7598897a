use Rattle.whips_ask_laws.proofs.Named.{to_first}
use Rattle.whips_ask_laws.proofs.reply_to_first.Goals as goal

pub returns : goal.returns
returns c = to_first
