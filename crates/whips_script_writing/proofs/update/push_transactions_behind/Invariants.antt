use Rattle.std.proofs.Common.{◌≡◌, ◌++◌, take, string_bytes, map}
use Rattle.whips_script_writing.specs.Objects.{behind_commas}
use Rattle.whips_script_writing.specs.Relations.{transaction_data}
use Rattle.whips_script_writing.proofs.update.push_transactions_behind.Given as goal

abbrev pub invariant-loop-transaction : goal.invariant-loop-transaction
invariant-loop-transaction l = string_bytes l.out ≡ string_bytes l.initial.out ++ behind_commas (map (transaction_data l.labels l.relations) (take l.transaction-index l.work))
