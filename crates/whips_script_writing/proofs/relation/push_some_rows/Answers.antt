use Rattle.std.proofs.Common.{string_bytes}
use Rattle.whips_script_writing.specs.Relations.{values_data, rows_data}
use Rattle.whips_script_writing.proofs.Listed.{on_ok, list_text}
use Rattle.whips_script_writing.proofs.relation.push_some_rows.Goals as goal

pub returns : goal.returns
returns c = on_ok c.push_plain-2.result c.push_plain-2.ensures (λ end. list_text (values_data c.args.labels.now c.args.kinds.now c.args.first.now) (rows_data c.args.labels.now c.args.kinds.now c.args.rest.now) (string_bytes c.args.out.now) (string_bytes c.push_plain.new.out) (string_bytes c.push_row.new.out) (string_bytes c.push_rows_behind.new.out) (string_bytes c.push_plain-2.new.out) c.in_ok-push_plain.ensures c.in_ok-push_row.ensures c.in_ok-push_rows_behind.ensures end)
