use Rattle.whips_ask_laws.proofs.Named.{transaction_asks, reply_asks}
use Rattle.whips_ask_laws.proofs.asks_stay.Goals as goal

pub returns : goal.returns
returns c = record { transaction = transaction_asks; reply = reply_asks }
