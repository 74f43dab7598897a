use Rattle.std.proofs.Common.{◌≡◌, take, map, fold}
use Rattle.serde_json.specs.View.{view}
use Rattle.whips_texts.specs.Dictionary.{with_transaction}
use Rattle.whips_texts.proofs.collect.add_transactions.Given as goal

abbrev pub invariant-loop-transaction : goal.invariant-loop-transaction
invariant-loop-transaction l = l.texts ≡ fold with_transaction l.initial.texts (map view (take l.transaction-index l.items))
