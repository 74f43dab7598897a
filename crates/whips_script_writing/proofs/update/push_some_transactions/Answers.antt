use Rattle.std.proofs.Common.{string_bytes, map}
use Rattle.whips_script_writing.specs.Relations.{transaction_data}
use Rattle.whips_script_writing.proofs.Listed.{on_ok, list_text}
use Rattle.whips_script_writing.proofs.update.push_some_transactions.Goals as goal

pub returns : goal.returns
returns c = on_ok c.push_plain-2.result c.push_plain-2.ensures (λ end. list_text (transaction_data c.args.labels.now c.args.relations.now c.args.first.now) (map (transaction_data c.args.labels.now c.args.relations.now) c.args.rest.now) (string_bytes c.args.out.now) (string_bytes c.push_plain.new.out) (string_bytes c.push_trans.new.out) (string_bytes c.push_transactions_behind.new.out) (string_bytes c.push_plain-2.new.out) c.in_ok-push_plain.ensures c.in_ok-push_trans.ensures c.in_ok-push_transactions_behind.ensures end)
