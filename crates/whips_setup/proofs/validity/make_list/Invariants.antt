use Rattle.std.proofs.Common.{◌≡◌, ◌+◌, true, length, drop}
use Rattle.std.specs.List.{list_all}
use Rattle.whips_setup.specs.Workloads.{is_transaction_within, list_refusal}
use Rattle.whips_setup.proofs.Valid.{have_widths}
use Rattle.whips_setup.proofs.validity.make_list.Given as goal

abbrev pub invariant-loop-transaction : goal.invariant-loop-transaction
invariant-loop-transaction l = record {
  place : l.place ≡ l.transaction-index;
  homes : length l.homes ≡ length l.relations.items;
  widths : have_widths l.relations.items (drop l.transaction-index l.list) ≡ true;
  items : list_all (is_transaction_within l.initial.relations.items) (drop l.transaction-index l.list) ≡ true;
  rest : list_refusal l.homes l.source (l.place + 1) l.relations.items (drop l.transaction-index l.list) ≡ list_refusal l.homes l.source 1 l.initial.relations.items l.list;
}
