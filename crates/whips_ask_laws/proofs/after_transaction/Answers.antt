use Rattle.whips_ask_laws.proofs.After.{after_transaction as whole}
use Rattle.whips_ask_laws.proofs.after_transaction.Goals as goal

pub returns : goal.returns
returns c = whole
