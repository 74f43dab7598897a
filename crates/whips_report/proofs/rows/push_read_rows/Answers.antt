use Rattle.std.proofs.Common.{string_bytes}
use Rattle.whips_report.proofs.RowTexts.{row_more}
use Rattle.whips_report.proofs.rows.push_read_rows.Goals as goal

pub loop-i-preserved : goal.loop-i-preserved
loop-i-preserved c = row_more c.args.labels.now c.args.kinds.now c.args.rows.now.rows c.loop-i.i c.row.result.now (string_bytes c.args.text.now) (string_bytes c.loop-i.text) (string_bytes c.push_row.new.text) c.row.ensures c.loop-i.invariant c.in_ok-push_row.ensures
