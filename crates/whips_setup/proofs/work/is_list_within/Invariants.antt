use Rattle.std.proofs.Common.{◌≡◌, drop}
use Rattle.std.specs.List.{list_all}
use Rattle.whips_setup.specs.Workloads.{is_transaction_within}
use Rattle.whips_setup.proofs.work.is_list_within.Given as goal

abbrev pub invariant-loop-transaction : goal.invariant-loop-transaction
invariant-loop-transaction l = list_all (is_transaction_within l.relations) (drop l.transaction-index l.list) ≡ list_all (is_transaction_within l.relations) l.list
